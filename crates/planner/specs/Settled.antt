-- What is settled before anything is written into the lent buffers, and what is then written.
--     Solved        the least total of the whole board and its full plan, for every charge that the charges of the positions agree with
--     SettledJob    the level of each position of a job, its least total and its full plan
--     HandedBack    the least total of a job, and both lent buffers: what is written, and behind it what they held
-- Assumes nothing.
use Rattle.std.specs.Prelude.{ℕ, ◌≡◌, List, ◌++◌, length, drop}
use Rattle.model.specs.Job.{Job}
use Rattle.model.specs.Power.{levels}
use Rattle.model.specs.Plan.{padded, shown}
use Rattle.optimum.specs.Best.{best}
use Rattle.optimum.specs.Chosen.{plan_run}
use Rattle.optimum.specs.OfJob.{best_of, plan_of}
use Rattle.planner.specs.Positions.{Looked, Charged}

abbrev pub Solved : (Q own : ℕ) (ws rates : List ℕ) (v total : ℕ) (full : List ℕ) → Type 0
Solved Q own ws rates v total full =
    (rate : ℕ → ℕ)
    → Charged rate ws rates
    → (total ≡ best Q own rate ws 0 v) × (full ≡ plan_run Q own rate ws 0 0 v)

pub record SettledJob (job : Job) (steps : List ℕ) (total : ℕ) (full : List ℕ) : Type 0 where
  pub looked : Looked job.table.frequencies (padded job) steps
  pub least : total ≡ best_of job
  pub chosen : full ≡ plan_of job

pub record HandedBack (job : Job) (plan₀ levels₀ : List ℕ) (total : ℕ) (planned leveled : List ℕ) : Type 0 where
  pub least : total ≡ best_of job
  pub plan_bytes : planned ≡ shown job (plan_of job) ++ drop (length job.loads) plan₀
  pub level_bytes : leveled ≡ levels job (shown job (plan_of job)) ++ drop job.islands levels₀
