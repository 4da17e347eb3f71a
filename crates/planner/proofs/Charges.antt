-- The levels of a table, by their number, and what they cost.
--     lowest_most    the level that is looked up is at most the number of levels
--     cost_most      no level costs more than the highest power at the lowest frequency
-- Assumes nothing.
use Prim.Native.Nat.{ℕ, suc, ◌*◌, ◌≤◌, ◌<◌, zero-le}
use mathlib.Core.Bool.{Bool, true, false, cond}
use mathlib.Core.List.{List, [], ◌∷◌}
use native.Mathlib.Omega.{arith}
use lib.Dec.{leb}
use lib.ListN.{length, get_or}
use Rattle.model.specs.Limits.{million}
use Rattle.model.specs.Table.{Table, WellShaped, WellRanged}
use Rattle.model.specs.Level.{lowest, cost}
use Rattle.model.proofs.Rounding.{rounded_least}
use Rattle.planner.specs.Bounds.{most_charge}

pub lowest_most : (fs : List ℕ) (w : ℕ) → lowest fs w ≤ length fs
unfolding lowest
lowest_most [] w = zero-le
lowest_most (f ∷ fs) w = either (leb w f) (lowest_most fs w)
  where
    either : (found : Bool) → lowest fs w ≤ length fs → cond found 0 (suc (lowest fs w)) ≤ suc (length fs)
    either true rest = zero-le
    either false rest = omega arith

pub cost_most : (t : Table) → WellShaped t → WellRanged t → (k : ℕ) → k < length t.frequencies → cost t k ≤ most_charge
unfolding cost
cost_most t shaped ranged k h =
    let frequency = ranged.frequency_range k h in
    let power = ranged.power_range k (omega arith) in
    rounded_least (get_or t.powers k 0 * million) (get_or t.frequencies k 0) most_charge (omega arith) (omega arith)
