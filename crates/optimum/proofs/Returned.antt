-- Demands 2 and 3 of what the caller reads: the returned plan and the reported total. From the answer nothing is taken but its plan
-- bytes, that the plan is by the rule, and that the total is the plan's.
--     returned-demand-2, returned-demand-3    the two demands
--     returned-idle    where all loads are 0, both the total and the exact power are 0
-- Assumes nothing.
use Prim.Native.Nat.{ℕ, ◌+◌, ◌*◌, ◌≤◌, ◌<◌}
use mathlib.Core.Path.{◌≡◌, sym, ap, ◌∙◌, subst}
use mathlib.Core.List.{List, [], ◌∷◌}
use native.Mathlib.Nat.{zero-add, zero-mul, le_trans, le_of_eq, lt_of_le_of_lt}
use lib.Dec.{lit<}
use lib.ListN.{length, take, drop, take-append-drop}
use Rattle.model.specs.Table.{WellRanged}
use Rattle.model.specs.Job.{Job}
use Rattle.model.specs.Power.{total, workload}
use Rattle.model.specs.Exact.{scale, exact}
use Rattle.model.specs.Placement.{Placement}
use Rattle.model.specs.Plan.{padding, shown}
use Rattle.model.specs.Crossing.{NoCrossing}
use Rattle.model.specs.TieRule.{Uncrossed}
use Rattle.model.specs.Refusals.{last_of}
use Rattle.model.specs.Answer.{Ruled, Answered}
use Rattle.optimum.specs.Passed.{Passed, returned}
use Rattle.optimum.specs.Demands.{Demand2, Demand3}
use Rattle.optimum.proofs.Lists.{last-append}
use Rattle.optimum.proofs.UncrossedRun.{top-last}
use Rattle.optimum.proofs.ShownPlan.{shown-no-crossing}
use Rattle.optimum.proofs.DemandTwo.{ruled-one, ruled-uncrossed, ruled-placement, ruled-least}
use Rattle.optimum.proofs.ExactPower.{exact-covered, exact-close, exact-idle}
use Rattle.optimum.proofs.ExactCost.{scale-positive}
use Rattle.optimum.proofs.DemandThree.{within-workload, whole-least}
use Rattle.optimum.proofs.Idle.{idle-total}
use Rattle.optimum.proofs.Answering.{answer-passed, answer-full, answer-ruled, returned-plan, returned-total}

module _
    (job : Job) (plan₀ levels₀ : List ℕ) (reported : ℕ) (planned leveled : List ℕ)
    (answer : Answered job plan₀ levels₀ 0 reported planned leveled) where
  plan : List ℕ
  plan = returned job planned

  full : List ℕ
  full = answer-full job plan₀ levels₀ reported planned leveled answer

  passed : Passed job
  passed = answer-passed job plan₀ levels₀ reported planned leveled answer

  ruled : Ruled job full
  unfolding full
  ruled = answer-ruled job plan₀ levels₀ reported planned leveled answer

  same : shown job full ≡ plan
  unfolding plan full
  same = sym (returned-plan job plan₀ levels₀ reported planned leveled answer)

  reports : reported ≡ total job plan
  unfolding plan
  reports = returned-total job plan₀ levels₀ reported planned leveled answer

  placed-plan : Placement job (returned job planned)
  unfolding plan full
  placed-plan =
      subst (λ (l : List ℕ). Placement job l) same
      (ruled-placement job passed full ruled)

  below : (other : List ℕ) → Placement job other → total job plan ≤ total job other
  unfolding plan full
  below other placed =
      le_trans (le_of_eq (ap (λ (l : List ℕ). total job l) (sym same)))
      (ruled-least job passed full ruled other placed)

  uncrossed : Uncrossed job.cores 0 job.islands full
  uncrossed = ruled-uncrossed job passed full ruled

  last-full : last_of full ≡ job.islands
  last-full =
      let cut = top-last job.cores 0 job.islands full passed.well.sizes.some-core passed.well.sizes.some-island uncrossed in
      ap (λ (l : List ℕ). last_of l) cut.1 ∙ last-append cut.0 ((0 + job.islands) ∷ []) (lit< tt) ∙ zero-add job.islands

  -- the caller's own loads are the last
  last-shown : 0 < length job.loads → last_of plan ≡ job.islands
  unfolding plan shown
  last-shown some =
      let front = take (padding job) full in
      let end = drop (padding job) full in
      let loaded : 0 < length end =
      subst (λ (n : ℕ). 0 < n) (sym (ap (λ (l : List ℕ). length l) same ∙ placed-plan.one-a-load)) some in
      ap (λ (l : List ℕ). last_of l) (sym same)
      ∙ sym (last-append front end loaded)
      ∙ ap (λ (l : List ℕ). last_of l) (take-append-drop (padding job) full)
      ∙ last-full

  pub returned-demand-2 : Demand2 job reported (returned job planned)
  unfolding plan full
  returned-demand-2 =
      record {
        placement = placed-plan;
        equation = reports;
        least = λ other placed. le_trans (le_of_eq reports) (below other placed);
        no-crossing =
            subst (λ (l : List ℕ). NoCrossing l) same
            (shown-no-crossing job full uncrossed.no-crossing);
        full = full;
        seen = sym same;
        uncrossed = uncrossed;
        last-position = last-full;
        last-load = last-shown;
        ruled = ruled;
        only = λ other rule. ruled-one job passed full other ruled rule;
      }

  ranged : WellRanged job.table
  ranged = passed.well.ranged

  scaled : reported * scale job ≡ total job (returned job planned) * scale job
  unfolding plan
  scaled = ap (λ (n : ℕ). n * scale job) reports

  pub returned-demand-3 : Demand3 job reported (returned job planned)
  unfolding plan
  returned-demand-3 =
      record {
        scaled = scale-positive job ranged;
        within = λ other placed. within-workload job ranged plan other placed-plan placed (below other placed);
        covered = le_trans (exact-covered job ranged plan placed-plan) (le_of_eq (sym scaled));
        close = λ some. lt_of_le_of_lt (le_of_eq scaled) (exact-close job ranged plan placed-plan some);
        equal = λ none. scaled ∙ exact-idle job ranged plan placed-plan none;
        whole = λ costs other placed. whole-least job ranged plan other placed-plan placed (below other placed) costs;
      }

  pub returned-idle : workload job ≡ 0 → (reported ≡ 0) × (exact job (returned job planned) ≡ 0)
  unfolding plan
  returned-idle idle =
      let none : reported ≡ 0 = reports ∙ idle-total job idle plan in
      (none, sym (returned-demand-3.equal idle) ∙ ap (λ (n : ℕ). n * scale job) none ∙ zero-mul (scale job))
