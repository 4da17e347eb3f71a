-- How many positions an island holds, and where they stand.
--     count_same, count_other    by the first entry
--     count_later                an island that is counted in the rest is counted
--     count_append               in two lists, one behind the other
--     count_none                 an island that stands at no place is counted 0 times
--     count_at                   the island that stands at a place is counted
--     single_same, single_other  in a single entry
--     count_first, count_last    the list, cut at its first or last place
-- Assumes nothing.
use Prim.Native.Nat.{ℕ, zero, suc, ◌+◌, ◌<◌}
use mathlib.Core.Path.{◌≡◌, refl, ap, ◌∙◌}
use mathlib.Core.List.{List, [], ◌∷◌, ◌++◌}
use native.Mathlib.Nat.{not-suc-le-zero}
use native.Mathlib.Decide.{ℕ_discrete, dec_lt}
use native.Mathlib.Omega.{arith}
use borrow.Author.Tests.{eq-eqb, ne_eqb}
use lib.ListN.{length, get_or}
use Rattle.model.specs.Plan.{count}

pub count_same : (y z : ℕ) (a : List ℕ) → y ≡ z → count z (y ∷ a) ≡ suc (count z a)
unfolding count
count_same y z a e = rw (eq-eqb y z e)

pub count_other : (y z : ℕ) (a : List ℕ) → ¬ (y ≡ z) → count z (y ∷ a) ≡ count z a
unfolding count
count_other y z a n = rw (ne_eqb y z n)

pub count_later : (y z : ℕ) (a : List ℕ) → 0 < count z a → 0 < count z (y ∷ a)
count_later y z a some =
    elim (ℕ_discrete y z) [
      | yes e ↦ omega (arith, count_same y z a e)
      | no n ↦ omega (arith, count_other y z a n)
    ]

pub count_append : (z : ℕ) (a b : List ℕ) → count z (a ++ b) ≡ count z a + count z b
unfolding count
count_append z [] b = omega arith
count_append z (y ∷ a) b =
    elim (ℕ_discrete y z) [
      | yes e ↦ omega (arith, count_same y z (a ++ b) e, count_same y z a e, count_append z a b)
      | no n ↦ omega (arith, count_other y z (a ++ b) n, count_other y z a n, count_append z a b)
    ]

pub count_none : (z : ℕ) (a : List ℕ) → ((j : ℕ) → j < length a → ¬ (get_or a j 0 ≡ z)) → count z a ≡ 0
unfolding count
count_none z [] h = refl
count_none z (y ∷ a) h = count_other y z a (h 0 (omega arith)) ∙ count_none z a (λ j b. h (suc j) (omega arith))

pub count_first : (z : ℕ) (a : List ℕ) → 0 < count z a → (b : List ℕ) × (d : List ℕ) × (a ≡ b ++ (z ∷ d)) × (count z b ≡ 0)
unfolding count
count_first z [] h = absurd (not-suc-le-zero h)
count_first z (y ∷ a) h =
    elim (ℕ_discrete y z) [
      | yes e ↦ ([], a, ap (λ (x : ℕ). x ∷ a) e, refl)
      | no n ↦
          let rest = count_first z a (omega (arith, count_other y z a n)) in
          (y ∷ rest.0, rest.1, ap (λ (l : List ℕ). y ∷ l) rest.2, count_other y z rest.0 n ∙ rest.3)
    ]

pub count_last : (z : ℕ) (a : List ℕ) → 0 < count z a → (b : List ℕ) × (d : List ℕ) × (a ≡ b ++ (z ∷ d)) × (count z d ≡ 0)
unfolding count
count_last z [] h = absurd (not-suc-le-zero h)
count_last z (y ∷ a) h =
    elim (dec_lt 0 (count z a)) [
      | yes some ↦
          let rest = count_last z a some in
          (y ∷ rest.0, rest.1, ap (λ (l : List ℕ). y ∷ l) rest.2, rest.3)
      | no none ↦
          elim (ℕ_discrete y z) [
            | yes e ↦ ([], a, ap (λ (x : ℕ). x ∷ a) e, omega arith)
            | no n ↦ absurd (omega (arith, count_other y z a n))
          ]
    ]

pub count_at : (a : List ℕ) (j : ℕ) → j < length a → 0 < count (get_or a j 0) a
count_at [] j h = absurd (not-suc-le-zero h)
count_at (y ∷ a) zero h = omega (arith, count_same y y a refl)
count_at (y ∷ a) (suc j) h = count_later y (get_or a j 0) a (count_at a j (omega arith))

pub single_same : (x z : ℕ) → x ≡ z → count z (x ∷ []) ≡ 1
unfolding count
single_same x z e = count_same x z [] e

pub single_other : (x z : ℕ) → ¬ (x ≡ z) → count z (x ∷ []) ≡ 0
unfolding count
single_other x z n = count_other x z [] n
