-- What the caller gets back: the one record that the planner's contract cites.
--     total_of     the total of an answer in picowatts; its number is `number_of` in Refusals
--     Ruled        a full plan of a job, by the tie rule
--     Kept         everything as it was, and no total
--     Accepted     the total, the plan and both buffers where nothing is refused
--     Answered     the answer to a job, whatever the job is
-- Assumes nothing.
use Rattle.std.specs.Prelude.{ℕ, ◌≤◌, ◌<◌, ◌≡◌, List, ◌++◌, length, drop, Result, Ok, Err}
use Rattle.units.specs.declared.Picowatts.{Picowatts}
use Rattle.model.specs.declared.Refusal.{Refusal}
use Rattle.model.specs.Level.{charge}
use Rattle.model.specs.Job.{Job}
use Rattle.model.specs.Power.{own, total, levels}
use Rattle.model.specs.Placement.{Placement}
use Rattle.model.specs.Plan.{padded, shown}
use Rattle.model.specs.TieRule.{ByRule}
use Rattle.model.specs.Refusals.{Tried, conditions}

-- "The answer is 0 with the total"; of the refusals "each returns a total of 0"
abbrev pub total_of : Result Picowatts Refusal → ℕ
total_of (Ok p) = p.0
total_of (Err cause) = 0

-- the plan over all V·Q positions that the tie rule names
abbrev pub Ruled : Job → List ℕ → Type 0
Ruled job full = ByRule job.cores (own job) (charge job.table) (padded job) 0 0 job.islands full

-- plan₀ and levels₀ are the lent buffers as they came, planned and leveled as they are left
pub record Accepted (job : Job) (plan₀ levels₀ : List ℕ) (reported : ℕ) (planned leveled : List ℕ) : Type 0 where
  -- "among equals the tie rule names one"
  pub full : List ℕ
  pub by_rule : Ruled job full
  -- "The plan buffer receives one byte per load, its island number." "Bytes beyond the first n […] keep their values."
  pub plan_bytes : planned ≡ shown job full ++ drop (length job.loads) plan₀
  pub placement : Placement job (shown job full)
  -- "No placement with at most the allowed sets per island has a lower total"
  pub least : (other : List ℕ) → Placement job other → total job (shown job full) ≤ total job other
  pub reported_total : reported ≡ total job (shown job full)
  -- "The level buffer receives one byte per island: 0, or the level number counted from 1." Bytes beyond the first V keep their values.
  pub level_bytes : leveled ≡ levels job (shown job full) ++ drop job.islands levels₀

-- a refusal "returns a total of 0 and changes no byte of either buffer"
pub record Kept (plan₀ levels₀ : List ℕ) (reported : ℕ) (planned leveled : List ℕ) : Type 0 where
  pub no_total : reported ≡ 0
  pub plan_kept : planned ≡ plan₀
  pub levels_kept : leveled ≡ levels₀

pub record Answered (job : Job) (plan₀ levels₀ : List ℕ) (number reported : ℕ) (planned leveled : List ℕ) : Type 0 where
  pub tried : Tried (conditions job (length plan₀) (length levels₀)) number
  pub refused : 0 < number → Kept plan₀ levels₀ reported planned leveled
  pub accepted : number ≡ 0 → Accepted job plan₀ levels₀ reported planned leveled
