-- The loads on an island, their sum and the heaviest of them.
--     held_same, held_other      by the first entry
--     held_append                in two lists, one behind the other
--     held_absent                an island that is counted 0 times holds nothing
--     held_length                an island holds as many loads as it is counted
--     sum_append, heaviest_append
--     heaviest_nothing           where the heaviest load is 0, so is the sum
--     drawn_is                   what an island draws, without a case for inactive ones
-- Assumes nothing.
use Prim.Native.Nat.{ℕ, suc, ◌+◌, ◌*◌, max, ◌≤◌}
use mathlib.Core.Path.{◌≡◌, refl, sym, ap, ◌∙◌}
use mathlib.Core.List.{List, [], ◌∷◌, ◌++◌}
use native.Mathlib.Nat.{zero-add, mul-zero, suc-ne-zero, suc_inj, le_of_suc-le-suc, not-suc-le-zero, zero-max, le-max_left, le-max_right}
use native.Mathlib.Decide.{ℕ_discrete, dec_lt}
use native.Mathlib.Omega.{arith}
use borrow.Author.Tests.{eq-eqb, ne_eqb, lt-ltb, le-ltb}
use lib.ListN.{length}
use Rattle.model.specs.Plan.{count}
use Rattle.model.specs.Power.{held, heaviest, sum, active, drawn}
use Rattle.optimum.specs.Best.{itself}
use Rattle.optimum.proofs.Counts.{count_same, count_other}

pub held_same : (y z : ℕ) (a : List ℕ) (w : ℕ) (ws : List ℕ) → y ≡ z → held z (y ∷ a) (w ∷ ws) ≡ w ∷ held z a ws
unfolding held
held_same y z a w ws e = rw (eq-eqb y z e)

pub held_other : (y z : ℕ) (a : List ℕ) (w : ℕ) (ws : List ℕ) → ¬ (y ≡ z) → held z (y ∷ a) (w ∷ ws) ≡ held z a ws
unfolding held
held_other y z a w ws n = rw (ne_eqb y z n)

pub held_append :
    (z : ℕ) (a b us vs : List ℕ)
    → length a ≡ length us
    → held z (a ++ b) (us ++ vs) ≡ held z a us ++ held z b vs
unfolding held
held_append z [] b [] vs h = refl
held_append z [] b (u ∷ us) vs h = absurd (suc-ne-zero _ (sym h))
held_append z (y ∷ a) b [] vs h = absurd (suc-ne-zero _ h)
held_append z (y ∷ a) b (u ∷ us) vs h =
    elim (ℕ_discrete y z) [
      | yes e ↦
          held_same y z (a ++ b) u (us ++ vs) e
          ∙ ap (λ (l : List ℕ). u ∷ l) (held_append z a b us vs (suc_inj h))
          ∙ ap (λ (l : List ℕ). l ++ held z b vs) (sym (held_same y z a u us e))
      | no n ↦
          held_other y z (a ++ b) u (us ++ vs) n
          ∙ held_append z a b us vs (suc_inj h)
          ∙ ap (λ (l : List ℕ). l ++ held z b vs) (sym (held_other y z a u us n))
    ]

pub held_absent : (z : ℕ) (a us : List ℕ) → count z a ≡ 0 → held z a us ≡ []
unfolding held
held_absent z [] us h = refl
held_absent z (y ∷ a) [] h = refl
held_absent z (y ∷ a) (u ∷ us) h =
    elim (ℕ_discrete y z) [
      | yes e ↦ absurd (omega (arith, count_same y z a e))
      | no n ↦ held_other y z a u us n ∙ held_absent z a us (omega (arith, count_other y z a n))
    ]

pub held_length : (z : ℕ) (a us : List ℕ) → length a ≤ length us → length (held z a us) ≡ count z a
unfolding held count
held_length z [] us h = refl
held_length z (y ∷ a) [] h = absurd (not-suc-le-zero h)
held_length z (y ∷ a) (u ∷ us) h =
    elim (ℕ_discrete y z) [
      | yes e ↦
          ap (λ (l : List ℕ). length l) (held_same y z a u us e)
          ∙ ap suc (held_length z a us (le_of_suc-le-suc h))
          ∙ sym (count_same y z a e)
      | no n ↦
          ap (λ (l : List ℕ). length l) (held_other y z a u us n)
          ∙ held_length z a us (le_of_suc-le-suc h)
          ∙ sym (count_other y z a n)
    ]

pub sum_append : (us vs : List ℕ) → sum (us ++ vs) ≡ sum us + sum vs
unfolding sum
sum_append [] vs = sym (zero-add (sum vs))
sum_append (u ∷ us) vs = omega (arith, sum_append us vs)

pub heaviest_append : (us vs : List ℕ) → heaviest (us ++ vs) ≡ max (heaviest us) (heaviest vs)
unfolding heaviest
heaviest_append [] vs = sym (zero-max (heaviest vs))
heaviest_append (u ∷ us) vs = omega (arith, heaviest_append us vs)

pub heaviest_nothing : (us : List ℕ) → heaviest us ≡ 0 → sum us ≡ 0
unfolding heaviest sum
heaviest_nothing [] h = refl
heaviest_nothing (u ∷ us) h =
    omega (arith, heaviest_nothing us (omega (arith, le-max_right u (heaviest us))), le-max_left u (heaviest us))

pub drawn_is : (own : ℕ) (rate : ℕ → ℕ) (us : List ℕ) → drawn own rate us ≡ itself own (heaviest us) + rate (heaviest us) * sum us
unfolding drawn active itself
drawn_is own rate us =
    elim (dec_lt 0 (heaviest us)) [
      | yes some ↦ rw (lt-ltb 0 (heaviest us) some)
      | no none ↦
          rw (le-ltb 0 (heaviest us) (omega arith), heaviest_nothing us (omega arith), mul-zero (rate (heaviest us)))
    ]
