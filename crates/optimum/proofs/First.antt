-- The first place at which a figure is least.
--     first_new        one place more, with less, is it
--     first_kept       one place more, with no less, is not
--     first_within     it is one of the m + 1 places
--     first_least      no place has less
--     first_before     every place before it has more
--     first_one        a place of which these three are said is it
--     first_same, least_same    figures that are equal at the m + 1 places have one first place, and one least figure
--     least_below      the least figure is at most that of every place
-- Assumes nothing.
use Prim.Native.Nat.{ℕ, zero, suc, ◌≤◌, ◌<◌, zero-le}
use mathlib.Core.Path.{◌≡◌, ap, ◌∙◌}
use native.Mathlib.Nat.{le_of_eq, not-suc-le-zero}
use native.Mathlib.Decide.{dec_lt, ℕ_discrete}
use native.Mathlib.Omega.{arith}
use borrow.Author.Tests.{lt-ltb, le-ltb}
use Rattle.optimum.specs.Best.{first, least}

pub first_new : (m : ℕ) (h : ℕ → ℕ) → h (suc m) < h (first m h) → first (suc m) h ≡ suc m
unfolding first
first_new m h less = rw (lt-ltb (h (suc m)) (h (first m h)) less)

pub first_kept : (m : ℕ) (h : ℕ → ℕ) → ¬ (h (suc m) < h (first m h)) → first (suc m) h ≡ first m h
unfolding first
first_kept m h more = rw (le-ltb (h (suc m)) (h (first m h)) (omega arith))

pub first_within : (m : ℕ) (h : ℕ → ℕ) → first m h ≤ m
unfolding first
first_within zero h = zero-le
first_within (suc m) h =
    elim (dec_lt (h (suc m)) (h (first m h))) [
      | yes less ↦ le_of_eq (first_new m h less)
      | no more ↦ omega (arith, first_kept m h more, first_within m h)
    ]

pub first_least : (m : ℕ) (h : ℕ → ℕ) (k : ℕ) → k ≤ m → h (first m h) ≤ h k
unfolding first
first_least zero h k b = le_of_eq (ap h (omega arith))
first_least (suc m) h k b =
    elim (dec_lt (h (suc m)) (h (first m h))) [
      | yes less ↦
          rw (first_new m h less)
          (elim (ℕ_discrete k (suc m)) [
            | yes e ↦ le_of_eq (ap h (omega arith))
            | no n ↦ omega (arith, first_least m h k (omega arith))
          ])
      | no more ↦
          rw (first_kept m h more)
          (elim (ℕ_discrete k (suc m)) [
            | yes e ↦ omega (arith, ap h e)
            | no n ↦ first_least m h k (omega arith)
          ])
    ]

pub first_before : (m : ℕ) (h : ℕ → ℕ) (k : ℕ) → k < first m h → h (first m h) < h k
unfolding first
first_before zero h k b = absurd (not-suc-le-zero b)
first_before (suc m) h k b =
    elim (dec_lt (h (suc m)) (h (first m h))) [
      | yes less ↦
          rw (first_new m h less) (omega (arith, first_new m h less, first_least m h k (omega (arith, first_new m h less))))
      | no more ↦ rw (first_kept m h more) (first_before m h k (rw (first_kept m h more) at b))
    ]

pub first_one :
    (m : ℕ) (h : ℕ → ℕ) (g : ℕ)
    → g ≤ m
    → ((k : ℕ) → k ≤ m → h g ≤ h k)
    → ((k : ℕ) → k < g → h g < h k)
    → first m h ≡ g
first_one m h g within below before =
    elim (dec_lt (first m h) g) [
      | yes lower ↦ absurd (omega (arith, before (first m h) lower, first_least m h g within))
      | no more ↦
          elim (dec_lt g (first m h)) [
            | yes higher ↦ absurd (omega (arith, first_before m h g higher, below (first m h) (first_within m h)))
            | no same ↦ omega arith
          ]
    ]

pub first_same : (m : ℕ) (h h' : ℕ → ℕ) → ((k : ℕ) → k ≤ m → h k ≡ h' k) → first m h ≡ first m h'
first_same m h h' same =
    first_one m h (first m h') (first_within m h')
    (λ k b. omega (arith, same k b, same (first m h') (first_within m h'), first_least m h' k b))
    (λ k b.
    omega
    (arith, same k (omega (arith, first_within m h')), same (first m h') (first_within m h'), first_before m h' k b))

pub least_same : (m : ℕ) (h h' : ℕ → ℕ) → ((k : ℕ) → k ≤ m → h k ≡ h' k) → least m h ≡ least m h'
unfolding least
least_same m h h' same = ap h (first_same m h h' same) ∙ same (first m h') (first_within m h')

pub least_below : (m : ℕ) (h : ℕ → ℕ) (k : ℕ) → k ≤ m → least m h ≤ h k
unfolding least
least_below m h k b = first_least m h k b
