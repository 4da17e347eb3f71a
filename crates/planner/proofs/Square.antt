-- The place of a run in the table of bests.
--     place_within    the place of a run within the board is one of the square's
--     place_one       no two runs share a place
--     best_stored     a figure that is stored for a run is what the table then has for it
--     best_others     and it has for every other run what it had
-- Nothing here but `place_within` and `place_one` looks into `place`. Assumes nothing.
use Prim.Native.Nat.{ℕ, zero, suc, ◌+◌, ◌*◌, ◌≤◌, ◌<◌}
use mathlib.Core.Path.{◌≡◌, refl, sym, subst, ◌∙◌}
use mathlib.Core.List.{List}
use native.Mathlib.Nat.{eq_of_mul-eq-mul_right, mul-pos}
use native.Mathlib.Omega.{arith}
use lib.ListN.{length, get_or, set}
use lib.Seq.{get_or-set_same, get_or-set_other}
use Rattle.model.specs.Limits.{most_places}
use Rattle.planner.specs.Square.{square_size, place, best_at}

pub place_within : (Q i v : ℕ) → 0 < v * Q → i + v * Q ≤ most_places → place Q i v < square_size
unfolding place
place_within Q i v some within = omega arith

-- no two runs share a place
pub place_one :
    (Q i v i' v' : ℕ)
    → 0 < Q
    → 0 < v
    → 0 < v'
    → i + v * Q ≤ most_places
    → i' + v' * Q ≤ most_places
    → place Q i v ≡ place Q i' v'
    → (i ≡ i') × (v ≡ v')
unfolding place
place_one Q i v i' v' pos some some' within within' same =
    let p : 0 < v * Q = mul-pos some pos in
    let p' : 0 < v' * Q = mul-pos some' pos in
    let first : i ≡ i' = omega arith in
    (first, eq_of_mul-eq-mul_right Q pos v v' (omega arith))

best_some : (Q : ℕ) (totals : List ℕ) (i v : ℕ) → 0 < v → best_at Q totals i v ≡ get_or totals (place Q i v) 0
unfolding best_at
best_some Q totals i zero some = absurd (omega arith)
best_some Q totals i (suc m) some = refl

module _
    (Q : ℕ) (totals : List ℕ) (i v total : ℕ) (pos : 0 < Q) (some : 0 < v) (square : length totals ≡ square_size)
    (within : i + v * Q ≤ most_places) where
  pub best_stored : best_at Q (set totals (place Q i v) total) i v ≡ total
  best_stored =
      best_some Q (set totals (place Q i v) total) i v some
      ∙ get_or-set_same totals (place Q i v) total 0
      (subst (λ (n : ℕ). place Q i v < n) (sym square) (place_within Q i v (mul-pos some pos) within))

  pub best_others :
      (j g : ℕ)
      → j + g * Q ≤ most_places
      → ¬ ((j ≡ i) × (g ≡ v))
      → best_at Q (set totals (place Q i v) total) j g ≡ best_at Q totals j g
  unfolding best_at
  best_others j zero inside other = refl
  best_others j (suc n) inside other =
      get_or-set_other totals (place Q i v) (place Q j (suc n)) total 0
      (λ same. other (place_one Q j (suc n) i v pos (omega arith) some inside within same))
