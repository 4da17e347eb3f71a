-- Fair assignments: every island of a list has exactly Q positions, and no other island has any. They may cross in any way.
--     Fair    such an assignment of positions to the islands zs
--     over    the sum of a figure over a list of islands
-- Assumes nothing.
use Rattle.std.specs.Prelude.{ℕ, ◌+◌, ◌*◌, ◌≤◌, ◌≡◌, List, [], ◌∷◌}
use Rattle.model.specs.Plan.{count}

pub record Fair (Q : ℕ) (zs plan : List ℕ) : Type 0 where
  pub once : (z : ℕ) → count z zs ≤ 1
  pub filled : (z : ℕ) → count z plan ≡ count z zs * Q

unfoldable pub over : (ℕ → ℕ) → List ℕ → ℕ
over g [] = 0
over g (z ∷ zs) = g z + over g zs
