-- The one law of the charge that everything above the table stands on: it never falls as the load grows. It is proved from the exact
-- slopes, over the cost's definition. Assumes nothing.
use Prim.Native.Nat.{ℕ, zero, suc, ◌+◌, ◌*◌, ◌≤◌, ◌<◌}
use mathlib.Core.Path.{◌≡◌, subst}
use native.Mathlib.Nat.{le_refl, le_trans, mul-le-mul_right, le_of_mul-le-mul_right, mul_right_comm, add-zero, le_dest}
use native.Mathlib.Omega.{arith}
use lib.ListN.{length, get_or}
use Rattle.model.specs.Limits.{million}
use Rattle.model.specs.Table.{Table, WellRanged, NotFalling}
use Rattle.model.specs.Level.{level_of, cost, charge}
use Rattle.model.specs.Placement.{FastEnough}
use Rattle.model.proofs.Rounding.{rounded_least, cost_covers}
use Rattle.model.proofs.Levels.{lowest_rises, lowest_within}

-- p over f is at most p' over f', and c covers the second: then it covers the first
covers : (p f p' f' c : ℕ) → 0 < f' → p * f' ≤ p' * f → p' * million ≤ c * f' → p * million ≤ c * f
covers p f p' f' c pos slope enough =
    let scaled : p * f' * million ≤ p' * f * million = mul-le-mul_right million slope in
    let covered : p' * million * f ≤ c * f' * f = mul-le-mul_right f enough in
    let both : p * million * f' ≤ c * f * f' = omega (arith, mul_right_comm c f f') in
    le_of_mul-le-mul_right both pos

module _ (t : Table) (ranged : WellRanged t) (slopes : NotFalling t) where
  -- from one level to the next
  cost_step : (k : ℕ) → k + 1 < length t.frequencies → cost t k ≤ cost t (k + 1)
  unfolding cost
  cost_step k h =
      let low : 0 < get_or t.frequencies k 0 = omega (arith, ranged.frequency_range k (omega arith)) in
      let high : 0 < get_or t.frequencies (k + 1) 0 = omega (arith, ranged.frequency_range (k + 1) h) in
      rounded_least (get_or t.powers k 0 * million) (get_or t.frequencies k 0) (cost t (k + 1)) low
      (covers (get_or t.powers k 0) (get_or t.frequencies k 0) (get_or t.powers (k + 1) 0) (get_or t.frequencies (k + 1) 0)
      (cost t (k + 1)) high (slopes k h) (cost_covers t (k + 1) high))

  -- over any number of levels
  cost_rises : (k d : ℕ) → k + d < length t.frequencies → cost t k ≤ cost t (k + d)
  cost_rises k zero h = rw add-zero (le_refl (cost t k))
  cost_rises k (suc d) h =
      let same : k + suc d ≡ k + d + 1 = omega arith in
      rw same (le_trans (cost_rises k d (omega arith)) (cost_step (k + d) (omega arith)))

  pub charge_never_falls : (w w' : ℕ) → w ≤ w' → FastEnough t w' → charge t w ≤ charge t w'
  unfolding charge level_of
  charge_never_falls w w' h fast =
      let up = le_dest (lowest_rises t.frequencies w w' h) in
      let within : level_of t w + up.0 < length t.frequencies = omega (arith, up.1, lowest_within t w' fast) in
      subst (λ (k : ℕ). cost t (level_of t w) ≤ cost t k) up.1 (cost_rises (level_of t w) up.0 within)
