-- A sum over islands is a sum over positions.
--     islands            the islands base + 1 to base + v, as a list
--     weighed            the sum over the positions: each load, times a weight of its island
--     each_length        a figure for each of v islands: v figures
--     each_at            the figure at a place
--     each_over          a sum of `each` is one over `islands`
--     islands_once, islands_below, islands_above, islands_length    every island of the range stands there once, and no other
--     over_same, over_sum, over_le, over_scaled    the sums of two figures that are equal, added, in order, multiplied
--     alone, over_one    a figure of one island alone, and its sum over a list where the island stands once
--     weighed_append     in two lists, one behind the other
--     spread             the islands' weighed sums of loads, added up, are the positions'
-- Assumes nothing.
use Prim.Native.Nat.{ℕ, zero, suc, ◌+◌, ◌*◌, ◌≤◌, ◌<◌, zero-le}
use mathlib.Core.Path.{◌≡◌, refl, sym, ap, ◌∙◌}
use mathlib.Core.Bool.{cond}
use mathlib.Core.List.{List, [], ◌∷◌, ◌++◌}
use native.Mathlib.Nat.{zero-add, add-zero, add_assoc, mul-zero, zero-mul, mul-add, add-mul, suc-ne-zero, suc_inj, add-le-add}
use native.Mathlib.Nat.{not-suc-le-zero, le_of_suc-le-suc}
use native.Mathlib.Decide.{ℕ_discrete}
use native.Mathlib.Omega.{arith}
use borrow.Author.Tests.{eq-eqb, ne_eqb}
use lib.Dec.{eqb}
use lib.ListN.{length, get_or}
use Rattle.model.specs.Plan.{count}
use Rattle.model.specs.Power.{each, held, sum}
use Rattle.optimum.specs.Fair.{over}
use Rattle.optimum.proofs.Counts.{count_same, count_other, count_later}
use Rattle.optimum.proofs.Held.{held_same, held_other}

unfoldable pub islands : ℕ → ℕ → List ℕ
islands base v = each (λ z. z) base v

unfoldable pub weighed : (ℕ → ℕ) → List ℕ → List ℕ → ℕ
weighed weight [] us = 0
weighed weight (y ∷ a) [] = 0
weighed weight (y ∷ a) (u ∷ us) = weight y * u + weighed weight a us

pub each_length : (g : ℕ → ℕ) (base v : ℕ) → length (each g base v) ≡ v
unfolding each
each_length g base zero = refl
each_length g base (suc v) = ap suc (each_length g (suc base) v)

pub each_at : (g : ℕ → ℕ) (base v i : ℕ) → i < v → get_or (each g base v) i 0 ≡ g (suc (base + i))
unfolding each
each_at g base zero i h = absurd (not-suc-le-zero h)
each_at g base (suc v) zero h = ap (λ (n : ℕ). g (suc n)) (sym (add-zero base))
each_at g base (suc v) (suc i) h = each_at g (suc base) v i (le_of_suc-le-suc h) ∙ ap (λ (n : ℕ). g n) (omega arith)

pub each_over : (g : ℕ → ℕ) (base v : ℕ) → sum (each g base v) ≡ over g (islands base v)
unfolding each sum over islands
each_over g base zero = refl
each_over g base (suc v) = ap (λ (n : ℕ). g (suc base) + n) (each_over g (suc base) v)

pub islands_below : (base v z : ℕ) → z ≤ base → count z (islands base v) ≡ 0
unfolding each islands count
islands_below base zero z h = refl
islands_below base (suc v) z h =
    count_other (suc base) z (islands (suc base) v) (λ e. omega arith) ∙ islands_below (suc base) v z (omega arith)

pub islands_once : (base v z : ℕ) → base < z → z ≤ base + v → count z (islands base v) ≡ 1
unfolding each islands count
islands_once base zero z low high = absurd (omega arith)
islands_once base (suc v) z low high =
    elim (ℕ_discrete (suc base) z) [
      | yes e ↦
          count_same (suc base) z (islands (suc base) v) e ∙ ap suc (islands_below (suc base) v z (omega arith))
      | no n ↦
          count_other (suc base) z (islands (suc base) v) n ∙ islands_once (suc base) v z (omega arith) (omega arith)
    ]

pub islands_above : (base v z : ℕ) → base + v < z → count z (islands base v) ≡ 0
unfolding each islands count
islands_above base zero z h = refl
islands_above base (suc v) z h =
    count_other (suc base) z (islands (suc base) v) (λ e. omega arith) ∙ islands_above (suc base) v z (omega arith)

pub islands_length : (base v : ℕ) → length (islands base v) ≡ v
unfolding each islands
islands_length base zero = refl
islands_length base (suc v) = ap suc (islands_length (suc base) v)

pub over_same : (f g : ℕ → ℕ) (zs : List ℕ) → ((z : ℕ) → 0 < count z zs → f z ≡ g z) → over f zs ≡ over g zs
unfolding over
over_same f g [] h = refl
over_same f g (y ∷ zs) h =
    let rest : over f zs ≡ over g zs = over_same f g zs (λ z some. h z (count_later y z zs some)) in
    let here : f y ≡ g y = h y (omega (arith, count_same y y zs refl)) in
    omega arith

pub over_sum : (f g : ℕ → ℕ) (zs : List ℕ) → over (λ z. f z + g z) zs ≡ over f zs + over g zs
unfolding over
over_sum f g [] = refl
over_sum f g (z ∷ zs) = omega (arith, over_sum f g zs)

pub over_le : (f g : ℕ → ℕ) (zs : List ℕ) → ((z : ℕ) → f z ≤ g z) → over f zs ≤ over g zs
unfolding over
over_le f g [] h = zero-le
over_le f g (z ∷ zs) h = add-le-add (h z) (over_le f g zs h)

pub over_scaled : (f : ℕ → ℕ) (k : ℕ) (zs : List ℕ) → over (λ z. f z * k) zs ≡ over f zs * k
unfolding over
over_scaled f k [] = sym (zero-mul k)
over_scaled f k (z ∷ zs) = ap (λ (n : ℕ). f z * k + n) (over_scaled f k zs) ∙ sym (add-mul (f z) (over f zs) k)

-- h, given to the island y alone
unfoldable pub alone : ℕ → ℕ → ℕ → ℕ
alone y h z = cond (eqb y z) h 0

over_absent : (y h : ℕ) (zs : List ℕ) → count y zs ≡ 0 → over (alone y h) zs ≡ 0
unfolding over alone
over_absent y h [] none = refl
over_absent y h (z ∷ zs) none =
    elim (ℕ_discrete z y) [
      | yes e ↦ absurd (omega (arith, count_same z y zs e))
      | no n ↦
          rw (ne_eqb y z (λ e. n (sym e)))
          (zero-add (over (alone y h) zs) ∙ over_absent y h zs (omega (arith, count_other z y zs n)))
    ]

pub over_one : (y h : ℕ) (zs : List ℕ) → count y zs ≡ 1 → over (alone y h) zs ≡ h
unfolding over alone count
over_one y h [] one = absurd (suc-ne-zero 0 (sym one))
over_one y h (z ∷ zs) one =
    elim (ℕ_discrete z y) [
      | yes e ↦
          rw (eq-eqb y z (sym e))
          (ap (λ (n : ℕ). h + n) (over_absent y h zs (suc_inj (sym (count_same z y zs e) ∙ one))) ∙ add-zero h)
      | no n ↦
          rw (ne_eqb y z (λ e. n (sym e)))
          (zero-add (over (alone y h) zs) ∙ over_one y h zs (sym (count_other z y zs n) ∙ one))
    ]

pub weighed_append :
    (weight : ℕ → ℕ) (a b us vs : List ℕ)
    → length a ≡ length us
    → weighed weight (a ++ b) (us ++ vs) ≡ weighed weight a us + weighed weight b vs
unfolding weighed
weighed_append weight [] b [] vs h = sym (zero-add (weighed weight b vs))
weighed_append weight [] b (u ∷ us) vs h = absurd (suc-ne-zero _ (sym h))
weighed_append weight (y ∷ a) b [] vs h = absurd (suc-ne-zero _ h)
weighed_append weight (y ∷ a) b (u ∷ us) vs h =
    ap (λ (n : ℕ). weight y * u + n) (weighed_append weight a b us vs (suc_inj h))
    ∙ sym (add_assoc (weight y * u) (weighed weight a us) (weighed weight b vs))

-- one more position
spread_step :
    (weight : ℕ → ℕ) (y : ℕ) (a : List ℕ) (u : ℕ) (us : List ℕ) (z : ℕ)
    → weight z * sum (held z (y ∷ a) (u ∷ us)) ≡ alone y (weight y * u) z + weight z * sum (held z a us)
unfolding alone sum
spread_step weight y a u us z =
    elim (ℕ_discrete y z) [
      | yes e ↦
          rw (eq-eqb y z e, held_same y z a u us e)
          (mul-add (weight z) u (sum (held z a us))
          ∙ ap (λ (n : ℕ). weight n * u + weight z * sum (held z a us)) (sym e))
      | no n ↦ rw (ne_eqb y z n, held_other y z a u us n) (sym (zero-add (weight z * sum (held z a us))))
    ]

over_zero : (f : ℕ → ℕ) (zs : List ℕ) → ((z : ℕ) → f z ≡ 0) → over f zs ≡ 0
unfolding over
over_zero f [] h = refl
over_zero f (z ∷ zs) h = omega (arith, h z, over_zero f zs h)

pub spread :
    (weight : ℕ → ℕ) (zs a us : List ℕ)
    → ((z : ℕ) → 0 < count z a → count z zs ≡ 1)
    → over (λ z. weight z * sum (held z a us)) zs ≡ weighed weight a us
unfolding weighed held sum
spread weight zs [] us once = over_zero _ zs (λ z. mul-zero (weight z))
spread weight zs (y ∷ a) [] once = over_zero _ zs (λ z. mul-zero (weight z))
spread weight zs (y ∷ a) (u ∷ us) once =
    let rest : over (λ z. weight z * sum (held z a us)) zs ≡ weighed weight a us =
    spread weight zs a us (λ z some. once z (count_later y z a some)) in
    let here : over (alone y (weight y * u)) zs ≡ weight y * u =
    over_one y (weight y * u) zs (once y (omega (arith, count_same y y a refl))) in
    over_same (λ z. weight z * sum (held z (y ∷ a) (u ∷ us))) (λ z. alone y (weight y * u) z + weight z * sum (held z a us)) zs
    (λ z some. spread_step weight y a u us z)
    ∙ over_sum (alone y (weight y * u)) (λ z. weight z * sum (held z a us)) zs
    ∙ omega arith
