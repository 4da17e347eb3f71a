-- The board cases, as one list with one claim. The row of a job is worked out from the definitions: its number by the decisions, its
-- total by the recurrence, its plan by the plan function. For every job that row is the answer; and those of the cases to prove are
-- the rows that 01 gives, by computation.
--     worked            the row of a job
--     worked_claimed    it is the answer, of every job
--     rows_worked       the rows that 01 gives are worked out so
--     cases_answered    so each of them is the answer to its job
--     cases_only        and the only one
-- Assumes nothing.
use Prim.Native.Nat.{ℕ, zero, suc}
use mathlib.Core.Path.{◌≡◌, refl, sym, subst}
use mathlib.Core.List.{List, [], ◌∷◌, ◌++◌, map}
use native.Mathlib.Omega.{arith}
use lib.ListN.{length, drop}
use Rattle.model.specs.Level.{lowest, level_of, rounded_up, cost, charge}
use Rattle.model.specs.Job.{Job}
use Rattle.model.specs.Power.{each, held, heaviest, active, own, level_number, levels}
use Rattle.model.specs.Plan.{padding, padded, shown}
use Rattle.model.specs.Refusals.{Tried, room_conditions}
use Rattle.model.specs.Answer.{Answered}
use Rattle.model.specs.Cases.{Case, proved}
use Rattle.model.proofs.Trying.{tried_before}
use Rattle.model.proofs.Deciding.{job_conditions, job_number}
use Rattle.optimum.specs.Best.{itself, first, least, load_at, top_load, fill, gap_cost, best_within, best}
use Rattle.optimum.specs.Chosen.{chosen, plan_gaps, plan_within, plan_run}
use Rattle.optimum.specs.OfJob.{best_of, plan_of}
use Rattle.optimum.specs.Passed.{Passed}
use Rattle.optimum.specs.CaseClaim.{plan_left, levels_left, Claimed, Only, Each}
use Rattle.optimum.proofs.Spread.{each_length}
use Rattle.optimum.proofs.DemandTwo.{plan_placement}
use Rattle.optimum.proofs.Passing.{tried_passed}
use Rattle.optimum.proofs.Answering.{answer_once, answer_planned, answer_kept}

-- the row of a job by its number: the plan function's plan where it is 0, and nothing where it is above 0
worked_as : Job → ℕ → Case
worked_as job zero =
    record {
      job = job;
      answer = 0;
      reported = best_of job;
      plan = shown job (plan_of job);
      levels = levels job (shown job (plan_of job));
    }
worked_as job (suc n) = record { job = job; answer = suc n; reported = 0; plan = []; levels = [] }

pub worked : Job → Case
worked job = worked_as job (job_number job).0

levels_length : (job : Job) (plan : List ℕ) → length (levels job plan) ≡ job.islands
unfolding levels
levels_length job plan = each_length (λ z. level_number job (held z plan job.loads)) 0 job.islands

module _ (job : Job) where
  as_worked : (n : ℕ) → Tried (job_conditions job) n → Claimed (worked_as job n)
  unfolding worked_as
  as_worked zero tried plan₀ levels₀ room =
      let passed : Passed job =
      (tried_passed job (length plan₀) (length levels₀)
      (tried_before (job_conditions job) (room_conditions job (length plan₀) (length levels₀)) 0 (room, tt) tried)).0 in
      let plan : List ℕ = shown job (plan_of job) in
      let places : length job.loads ≡ length plan = sym (plan_placement job passed).one_a_load in
      let islands : job.islands ≡ length (levels job plan) = sym (levels_length job plan) in
      subst (λ (k : ℕ). Answered job plan₀ levels₀ 0 (best_of job) (plan ++ drop (length plan) plan₀) (levels job plan ++ drop k levels₀))
      islands
      (subst (λ (k : ℕ). Answered job plan₀ levels₀ 0 (best_of job) (plan ++ drop k plan₀) (levels job plan ++ drop job.islands levels₀))
      places (answer_planned job plan₀ levels₀ passed room))
  as_worked (suc n) tried plan₀ levels₀ room =
      answer_kept job plan₀ levels₀ (suc n) (omega arith)
      (tried_before (job_conditions job) (room_conditions job (length plan₀) (length levels₀)) (suc n) (room, tt) tried)

  pub worked_claimed : Claimed (worked job)
  unfolding worked
  worked_claimed = as_worked (job_number job).0 (job_number job).1

pub rows_worked : map (λ c. worked c.job) proved ≡ proved
unfolding lowest level_of rounded_up cost charge each held heaviest active own level_number levels padding padded shown
    itself first least load_at top_load fill gap_cost best_within best chosen plan_gaps plan_within plan_run best_of plan_of
    job_number worked_as worked
rows_worked = refl

all_worked : (cs : List Case) → Each Claimed (map (λ c. worked c.job) cs)
all_worked [] = tt
all_worked (c ∷ cs) = (worked_claimed c.job, all_worked cs)

pub cases_answered : Each Claimed proved
cases_answered = subst (λ (cs : List Case). Each Claimed cs) rows_worked (all_worked proved)

-- a row that is the answer to its job is the only one
all_only : (cs : List Case) → Each Claimed cs → Each Only cs
all_only [] claimed = tt
all_only (c ∷ cs) claimed = (
  λ plan₀ levels₀ room n reported planned leveled answer.
      answer_once c.job plan₀ levels₀ n c.answer reported c.reported planned leveled (plan_left c plan₀) (levels_left c levels₀)
      answer (claimed.0 plan₀ levels₀ room),
  all_only cs claimed.1,
)

pub cases_only : Each Only proved
cases_only = all_only proved cases_answered
