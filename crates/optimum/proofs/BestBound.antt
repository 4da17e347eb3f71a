-- What the recurrence comes to at most, over any figures: W bounds what an island in a gap costs, P what a member is charged.
--     Capped      the bests of the runs of at most m islands that end at or before a place are at most W for each island
--     fill_most   r + 1 members with m islands in the gaps below them
-- Assumes nothing.
use Prim.Native.Nat.{ℕ, zero, suc, ◌+◌, ◌-◌, ◌*◌, ◌≤◌, zero-le}
use mathlib.Core.List.{List}
use native.Mathlib.Nat.{le_refl}
use native.Mathlib.Omega.{arith}
use lib.ListN.{get_or}
use Rattle.optimum.specs.Best.{load_at, fill, gap_cost}
use Rattle.optimum.proofs.First.{least_below}
use Rattle.optimum.proofs.Recurrence.{islands_parted, fill_lowest, fill_member}

abbrev pub Capped : ℕ → ℕ → (ℕ → ℕ → ℕ) → ℕ → ℕ → Type 0
Capped W Q b m end = (j g : ℕ) → g ≤ m → j + g * Q ≤ end → b j g ≤ g * W

module _
    (W P Q : ℕ) (ws : List ℕ) (b : ℕ → ℕ → ℕ) (ρ i : ℕ) (charged : (k : ℕ) → ρ * get_or ws k 0 ≤ P) where
  gap_capped :
      (r m : ℕ)
      → ((n : ℕ) → Capped W Q b n (i + (n * Q + r)) → fill Q ws b ρ i r n ≤ n * W + suc r * P)
      → Capped W Q b m (i + (m * Q + suc r))
      → (g : ℕ)
      → g ≤ m
      → gap_cost Q b (fill Q ws b ρ i r) i r m g ≤ m * W + suc r * P
  unfolding gap_cost
  gap_capped r m below most g h =
      let parts = islands_parted m g Q h in
      omega (
        arith,
        most (i + ((m - g) * Q + suc r)) g h (omega (arith, parts)),
        below (m - g) (λ j k h' inside. most j k (omega arith) (omega (arith, parts))),
        islands_parted m g W h,
      )

  pub fill_most : (r m : ℕ) → Capped W Q b m (i + (m * Q + r)) → fill Q ws b ρ i r m ≤ m * W + suc r * P
  unfolding load_at
  fill_most zero m most =
      omega (arith, fill_lowest Q ws b ρ i m, charged (i + (m * Q + 0)), most i m (le_refl m) (omega arith))
  fill_most (suc r) m most =
      omega (
        arith,
        fill_member Q ws b ρ i r m,
        charged (i + (m * Q + suc r)),
        least_below m (gap_cost Q b (fill Q ws b ρ i r) i r m) 0 zero-le,
        gap_capped r m (fill_most r) most 0 zero-le,
      )
