-- Counting over a plan whose entries are all islands of one range.
--     Outside, in-or-out    an island is one of a range, or below or above it
--     within-else        an island that is counted lies in a range, if one outside of it would be counted 0 times
--     islands-outside, islands-within    an island that stands in `islands` is one of the range
--     named-outside, named-within        so is one that is counted in such a plan
--     named-counted      a plan that counts no island but those of the range is such a plan
--     over-level         the sum of the same figure for every island
--     counts-length      the counts of all islands, added up, are the places
--     full-length        a full plan has v times Q places
--     held-workload      the sums of all islands' loads, each times a factor, are the sum of the loads times that factor
--     power-same         islands of the range that draw the same, one by one, draw the same together
-- Assumes nothing.
use Prim.Native.Nat.{ℕ, ◌+◌, ◌*◌, ◌≤◌, ◌<◌}
use mathlib.Core.Path.{◌≡◌, refl, sym, ap, ◌∙◌}
use mathlib.Core.Logic.{◌⊎◌, inl, inr}
use mathlib.Core.List.{List, [], ◌∷◌}
use native.Mathlib.Nat.{zero-mul, mul-zero, mul-add, suc_inj, suc-ne-zero}
use native.Mathlib.Decide.{ℕ_discrete, dec_lt}
use native.Mathlib.Omega.{arith}
use borrow.Author.Tests.{eq-eqb, ne_eqb}
use lib.ListN.{length, get_or}
use Rattle.model.specs.Plan.{count, Named, Full}
use Rattle.model.specs.Power.{held, sum, drawn, power}
use Rattle.optimum.specs.Fair.{over}
use Rattle.optimum.proofs.Counts.{count_same, count-other, count-later, count_none, count_at}
use Rattle.optimum.proofs.Spread.{islands, weighed, alone, islands-below, islands-above, islands-once, islands-length}
use Rattle.optimum.proofs.Spread.{each_over, over-same, over-sum, over-one, spread}

-- outside the range of the islands base + 1 to base + v
abbrev pub Outside : ℕ → ℕ → ℕ → Type 0
Outside base v z = (z ≤ base) ⊎ (base + v < z)

pub in-or-out : (base v z : ℕ) → ((base < z) × (z ≤ base + v)) ⊎ Outside base v z
in-or-out base v z =
    elim (dec_lt base z) [
      | yes low ↦
          elim (dec_lt (base + v) z) [
            | yes above ↦ inr (inr above)
            | no high ↦ inl (low, omega arith)
          ]
      | no below ↦ inr (inl (omega arith))
    ]

pub within-else : (base v z k : ℕ) → (Outside base v z → k ≡ 0) → 0 < k → (base < z) × (z ≤ base + v)
within-else base v z k outside some =
    elim (in-or-out base v z) [
      | inl within ↦ within
      | inr out ↦ absurd (omega (arith, outside out))
    ]

pub islands-outside : (base v z : ℕ) → Outside base v z → count z (islands base v) ≡ 0
islands-outside base v z (inl below) = islands-below base v z below
islands-outside base v z (inr above) = islands-above base v z above

pub islands-within : (base v z : ℕ) → 0 < count z (islands base v) → (base < z) × (z ≤ base + v)
islands-within base v z = within-else base v z (count z (islands base v)) (islands-outside base v z)

pub named-outside : (base v : ℕ) (plan : List ℕ) → Named base v plan → (z : ℕ) → Outside base v z → count z plan ≡ 0
named-outside base v plan named z (inl below) = count_none z plan (λ j h e. omega (arith, (named j h).0))
named-outside base v plan named z (inr above) = count_none z plan (λ j h e. omega (arith, (named j h).1))

pub named-within : (base v : ℕ) (plan : List ℕ) → Named base v plan → (z : ℕ) → 0 < count z plan → (base < z) × (z ≤ base + v)
named-within base v plan named z = within-else base v z (count z plan) (named-outside base v plan named z)

named-once : (base v : ℕ) (plan : List ℕ) → Named base v plan → (z : ℕ) → 0 < count z plan → count z (islands base v) ≡ 1
named-once base v plan named z some =
    let within = named-within base v plan named z some in
    islands-once base v z within.0 within.1

pub named-counted :
    (base v : ℕ) (plan : List ℕ)
    → ((z : ℕ) → 0 < count z plan → (base < z) × (z ≤ base + v))
    → Named base v plan
named-counted base v plan within j h = within (get_or plan j 0) (count_at plan j h)

pub over-level : (k : ℕ) (zs : List ℕ) → over (λ z. k) zs ≡ length zs * k
unfolding over
over-level k [] = sym (zero-mul k)
over-level k (z ∷ zs) = omega (arith, over-level k zs)

-- one more place
count-step : (y : ℕ) (a : List ℕ) (z : ℕ) → count z (y ∷ a) ≡ alone y 1 z + count z a
unfolding alone
count-step y a z =
    elim (ℕ_discrete y z) [
      | yes e ↦ rw (eq-eqb y z e) (omega (arith, count_same y z a e))
      | no n ↦ rw (ne_eqb y z n) (omega (arith, count-other y z a n))
    ]

counts-places : (zs a : List ℕ) → ((z : ℕ) → 0 < count z a → count z zs ≡ 1) → over (λ z. count z a) zs ≡ length a
unfolding count
counts-places zs [] once = over-level 0 zs ∙ mul-zero (length zs)
counts-places zs (y ∷ a) once =
    let rest : over (λ z. count z a) zs ≡ length a = counts-places zs a (λ z some. once z (count-later y z a some)) in
    let here : over (alone y 1) zs ≡ 1 = over-one y 1 zs (once y (omega (arith, count_same y y a refl))) in
    over-same (λ z. count z (y ∷ a)) (λ z. alone y 1 z + count z a) zs (λ z some. count-step y a z)
    ∙ over-sum (alone y 1) (λ z. count z a) zs
    ∙ omega arith

pub counts-length : (base v : ℕ) (a : List ℕ) → Named base v a → over (λ z. count z a) (islands base v) ≡ length a
counts-length base v a named = counts-places (islands base v) a (named-once base v a named)

pub full-length : (Q base v : ℕ) (plan : List ℕ) → Full Q base v plan → length plan ≡ v * Q
full-length Q base v plan full =
    sym (counts-length base v plan full.named)
    ∙ over-same (λ z. count z plan) (λ z. Q) (islands base v)
    (λ z some. full.filled z (islands-within base v z some).0 (islands-within base v z some).1)
    ∙ over-level Q (islands base v)
    ∙ ap (λ (n : ℕ). n * Q) (islands-length base v)

weighed-flat : (g : ℕ) (a ws : List ℕ) → length a ≡ length ws → weighed (λ z. g) a ws ≡ g * sum ws
unfolding weighed sum
weighed-flat g [] [] h = sym (mul-zero g)
weighed-flat g [] (w ∷ ws) h = absurd (suc-ne-zero _ (sym h))
weighed-flat g (y ∷ a) [] h = absurd (suc-ne-zero _ h)
weighed-flat g (y ∷ a) (w ∷ ws) h =
    ap (λ (n : ℕ). g * w + n) (weighed-flat g a ws (suc_inj h)) ∙ sym (mul-add g w (sum ws))

pub held-workload :
    (g base v : ℕ) (a ws : List ℕ)
    → Named base v a
    → length a ≡ length ws
    → over (λ z. g * sum (held z a ws)) (islands base v) ≡ g * sum ws
held-workload g base v a ws named one-a-load =
    spread (λ z. g) (islands base v) a ws (named-once base v a named) ∙ weighed-flat g a ws one-a-load

-- where every island of the range draws the same, so do all together
pub power-same :
    (own : ℕ) (rate : ℕ → ℕ) (base v : ℕ) (plan us plan' us' : List ℕ)
    → ((z : ℕ) → base < z → z ≤ base + v → drawn own rate (held z plan us) ≡ drawn own rate (held z plan' us'))
    → power own rate base v plan us ≡ power own rate base v plan' us'
unfolding power
power-same own rate base v plan us plan' us' same =
    each_over (λ z. drawn own rate (held z plan us)) base v
    ∙ over-same (λ z. drawn own rate (held z plan us)) (λ z. drawn own rate (held z plan' us')) (islands base v)
    (λ z some.
    let within = islands-within base v z some in
    same z within.0 within.1)
    ∙ sym (each_over (λ z. drawn own rate (held z plan' us')) base v)
