-- "An island is active if some load on it is above 0": the test by the heaviest load says just that.
--     heaviest_covers    the heaviest load is at least every load
--     active_some        where the test is true, some load is above 0
--     some_active        and where some load is above 0, it is true
-- Assumes nothing.
use Prim.Native.Nat.{ℕ, zero, suc, ◌≤◌, ◌<◌, zero-le}
use mathlib.Core.Path.{◌≡◌}
use mathlib.Core.Bool.{true}
use mathlib.Core.List.{List, [], ◌∷◌}
use native.Mathlib.Nat.{not-suc-le-zero, le_trans, lt_of_lt_of_le, le-max_left, le-max_right}
use native.Mathlib.Decide.{dec_lt}
use native.Mathlib.Omega.{arith}
use borrow.Author.Tests.{lt-ltb, ltb-true}
use lib.ListN.{get_or}
use Rattle.model.specs.Power.{heaviest, active}

pub heaviest_covers : (ws : List ℕ) (j : ℕ) → get_or ws j 0 ≤ heaviest ws
unfolding heaviest
heaviest_covers [] j = zero-le
heaviest_covers (w ∷ ws) zero = le-max_left w (heaviest ws)
heaviest_covers (w ∷ ws) (suc j) = le_trans (heaviest_covers ws j) (le-max_right w (heaviest ws))

heaviest_some : (ws : List ℕ) → 0 < heaviest ws → (j : ℕ) × (0 < get_or ws j 0)
unfolding heaviest
heaviest_some [] h = absurd (not-suc-le-zero h)
heaviest_some (w ∷ ws) h =
    elim (dec_lt 0 w) [
      | yes here ↦ (0, here)
      | no none ↦
          let rest = heaviest_some ws (omega arith) in
          (suc rest.0, rest.1)
    ]

pub active_some : (ws : List ℕ) → active ws ≡ true → (j : ℕ) × (0 < get_or ws j 0)
unfolding active
active_some ws h = heaviest_some ws (ltb-true 0 (heaviest ws) h)

pub some_active : (ws : List ℕ) (j : ℕ) → 0 < get_or ws j 0 → active ws ≡ true
unfolding active
some_active ws j h = lt-ltb 0 (heaviest ws) (lt_of_lt_of_le h (heaviest_covers ws j))
