-- No second answer fits a job: two that meet the contract of `plan` are equal, and so are both buffers as they are left. Assumes nothing.
use Prim.Native.Nat.{ℕ}
use mathlib.Core.Path.{◌≡◌}
use mathlib.Core.List.{List}
use Rattle.std.specs.Prelude.{Result}
use Rattle.units.specs.declared.Picowatts.{Picowatts}
use Rattle.model.specs.declared.Refusal.{Refusal}
use Rattle.model.specs.Job.{Job}
use Rattle.model.specs.Refusals.{number_of}
use Rattle.model.specs.Answer.{total_of, Answered}
use Rattle.model.proofs.Trying.{planned_one}
use Rattle.optimum.proofs.Promises.{answered_once}

-- "every input has one result and one content of the lent buffers afterwards, in refusals too"
pub plan_one :
    (job : Job) (plan₀ levels₀ : List ℕ) (r s : Result Picowatts Refusal) (p l p' l' : List ℕ)
    → Answered job plan₀ levels₀ (number_of r) (total_of r) p l
    → Answered job plan₀ levels₀ (number_of s) (total_of s) p' l'
    → (r ≡ s) × (p ≡ p') × (l ≡ l')
plan_one job plan₀ levels₀ r s p l p' l' one other =
    let same = answered_once job plan₀ levels₀ (number_of r) (number_of s) (total_of r) (total_of s) p l p' l' one other in
    (planned_one r s same.number same.totals, same.plans, same.levels)
