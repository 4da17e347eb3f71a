-- To gather an island's positions at the end of a stretch never costs more, if no other island there has a lower weight.
--     without           a list of islands, without one of them
--     count_without_same, count_without_other, length_without    how often islands stand in it, and how long it is
--     over_without      a sum over the list, by one island and the rest
--     gather            all positions of the island, moved to the end
-- Assumes nothing.
use Prim.Native.Nat.{ℕ, ◌+◌, ◌*◌, ◌≤◌, ◌<◌, zero-le}
use mathlib.Core.Path.{◌≡◌, refl, sym, ap, ◌∙◌}
use mathlib.Core.Bool.{cond}
use mathlib.Core.List.{List, [], ◌∷◌}
use native.Mathlib.Nat.{not-suc-le-zero, le_of_suc-le-suc, suc_inj, suc-ne-zero, le_refl, le_of_eq, le_trans, lt_of_lt_of_le, le_dest}
use native.Mathlib.Decide.{ℕ_discrete}
use native.Mathlib.Omega.{arith}
use borrow.Author.Tests.{eq-eqb, ne_eqb}
use lib.Dec.{eqb}
use lib.ListN.{length, get_or, drop}
use lib.Seq.{drop-cons}
use Rattle.model.specs.Plan.{count}
use Rattle.model.specs.Power.{sum}
use Rattle.optimum.specs.Loads.{Sorted}
use Rattle.optimum.specs.Fair.{over}
use Rattle.optimum.proofs.Counts.{count_same, count_other, count_later}
use Rattle.optimum.proofs.Spread.{weighed}

unfoldable pub without : ℕ → List ℕ → List ℕ
without x [] = []
without x (y ∷ a) = cond (eqb y x) (without x a) (y ∷ without x a)

without_same : (x y : ℕ) (a : List ℕ) → y ≡ x → without x (y ∷ a) ≡ without x a
unfolding without
without_same x y a e = rw (eq-eqb y x e)

without_other : (x y : ℕ) (a : List ℕ) → ¬ (y ≡ x) → without x (y ∷ a) ≡ y ∷ without x a
unfolding without
without_other x y a n = rw (ne_eqb y x n)

pub count_without_same : (x : ℕ) (a : List ℕ) → count x (without x a) ≡ 0
unfolding without count
count_without_same x [] = refl
count_without_same x (y ∷ a) =
    elim (ℕ_discrete y x) [
      | yes e ↦ rw (without_same x y a e) (count_without_same x a)
      | no n ↦ rw (without_other x y a n) (count_other y x (without x a) n ∙ count_without_same x a)
    ]

pub count_without_other : (x z : ℕ) (a : List ℕ) → ¬ (x ≡ z) → count z (without x a) ≡ count z a
unfolding without count
count_without_other x z [] other = refl
count_without_other x z (y ∷ a) other =
    elim (ℕ_discrete y x) [
      | yes e ↦
          rw (without_same x y a e)
          (count_without_other x z a other ∙ sym (count_other y z a (λ f. other (sym e ∙ f))))
      | no n ↦
          rw (without_other x y a n)
          (elim (ℕ_discrete y z) [
            | yes f ↦
                omega (arith, count_same y z (without x a) f, count_same y z a f, count_without_other x z a other)
            | no f ↦
                omega (arith, count_other y z (without x a) f, count_other y z a f, count_without_other x z a other)
          ])
    ]

pub length_without : (x : ℕ) (a : List ℕ) → length a ≡ length (without x a) + count x a
unfolding without count
length_without x [] = refl
length_without x (y ∷ a) =
    elim (ℕ_discrete y x) [
      | yes e ↦ rw (without_same x y a e) (omega (arith, length_without x a, count_same y x a e))
      | no n ↦ rw (without_other x y a n) (omega (arith, length_without x a, count_other y x a n))
    ]

over_without_absent : (g : ℕ → ℕ) (x : ℕ) (zs : List ℕ) → count x zs ≡ 0 → over g (without x zs) ≡ over g zs
unfolding without over
over_without_absent g x [] none = refl
over_without_absent g x (y ∷ zs) none =
    elim (ℕ_discrete y x) [
      | yes e ↦ absurd (omega (arith, count_same y x zs e))
      | no n ↦
          rw (without_other x y zs n)
          (ap (λ (k : ℕ). g y + k) (over_without_absent g x zs (omega (arith, count_other y x zs n))))
    ]

pub over_without : (g : ℕ → ℕ) (x : ℕ) (zs : List ℕ) → count x zs ≡ 1 → over g zs ≡ g x + over g (without x zs)
unfolding without over count
over_without g x [] one = absurd (suc-ne-zero 0 (sym one))
over_without g x (y ∷ zs) one =
    elim (ℕ_discrete y x) [
      | yes e ↦
          rw (without_same x y zs e)
          (omega (arith, ap g e, over_without_absent g x zs (omega (arith, count_same y x zs e))))
      | no n ↦
          rw (without_other x y zs n)
          (omega (arith, over_without g x zs (omega (arith, count_other y x zs n))))
    ]

-- the heavier load under the lower weight
exchange : (w weight u u' : ℕ) → w ≤ weight → u ≤ u' → weight * u + w * u' ≤ weight * u' + w * u
exchange w weight u u' h k =
    let more = le_dest h in
    let up = le_dest k in
    rw (← more.1, ← up.1) (omega arith)

slide :
    (weight : ℕ → ℕ) (w : ℕ) (l : List ℕ) (u : ℕ) (us : List ℕ)
    → Sorted (u ∷ us)
    → length l ≤ length us
    → ((z : ℕ) → 0 < count z l → w ≤ weight z)
    → weighed weight l (u ∷ us) + w * get_or (u ∷ us) (length l) 0 ≤ weighed weight l us + w * u
unfolding weighed
slide weight w [] u us sorted len heavier = le_refl (0 + w * u)
slide weight w (y ∷ l) u [] sorted len heavier = absurd (not-suc-le-zero len)
slide weight w (y ∷ l) u (u' ∷ us) sorted len heavier =
    let rest : weighed weight l (u' ∷ us) + w * get_or (u' ∷ us) (length l) 0 ≤ weighed weight l us + w * u' =
    slide weight w l u' us sorted.1 (le_of_suc-le-suc len) (λ z some. heavier z (count_later y z l some)) in
    omega
    (arith, exchange w (weight y) u u' (heavier y (omega (arith, count_same y y l refl))) sorted.0.0)

sum_behind : (k u : ℕ) (us : List ℕ) → k ≤ length us → sum (drop k (u ∷ us)) ≡ get_or (u ∷ us) k 0 + sum (drop k us)
unfolding sum
sum_behind k u us h = ap (λ (l : List ℕ). sum l) (drop-cons (u ∷ us) k 0 (omega arith))

pub gather :
    (weight : ℕ → ℕ) (x : ℕ) (l us : List ℕ)
    → Sorted us
    → length l ≡ length us
    → ((z : ℕ) → 0 < count z l → weight x ≤ weight z)
    → weighed weight (without x l) us + weight x * sum (drop (length (without x l)) us) ≤ weighed weight l us
unfolding without weighed sum
gather weight x [] [] sorted len heavier = le_of_eq (omega arith)
gather weight x [] (u ∷ us) sorted len heavier = absurd (suc-ne-zero _ (sym len))
gather weight x (y ∷ l) [] sorted len heavier = absurd (suc-ne-zero _ len)
gather weight x (y ∷ l) (u ∷ us) sorted len heavier =
    let l' = without x l in
    let rest : weighed weight l' us + weight x * sum (drop (length l') us) ≤ weighed weight l us =
    gather weight x l us sorted.1 (suc_inj len) (λ z some. heavier z (count_later y z l some)) in
    let short : length l' ≤ length us = omega (arith, length_without x l, suc_inj len) in
    elim (ℕ_discrete y x) [
      | yes e ↦
          rw (without_same x y l e)
          (let down : weighed weight l' (u ∷ us) + weight x * get_or (u ∷ us) (length l') 0 ≤ weighed weight l' us + weight x * u =
          slide weight (weight x) l' u us sorted short
          (λ z some. heavier z (count_later y z l (lt_of_lt_of_le some (kept z)))) in
          omega
          (arith, ap (λ (k : ℕ). weight x * k) (sum_behind (length l') u us short), ap (λ (k : ℕ). weight k * u) e))
      | no n ↦ rw (without_other x y l n) (omega arith)
    ]
  where
    kept : (z : ℕ) → count z (without x l) ≤ count z l
    kept z =
        elim (ℕ_discrete x z) [
          | yes e ↦ le_trans (le_of_eq (ap (λ (k : ℕ). count k (without x l)) (sym e) ∙ count_without_same x l)) zero-le
          | no n ↦ le_of_eq (count_without_other x z l n)
        ]
