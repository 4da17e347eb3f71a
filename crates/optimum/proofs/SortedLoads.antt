-- Sorted loads, and the heaviest load of an island among them.
--     most_front, most_back, sorted_front, sorted_back    the parts of two lists, one behind the other
--     sorted_taken_out, most_taken_out    what is left when a stretch is taken out
--     sorted_last                     no load is above the last
--     heaviest_at_least, heaviest_at_most    the heaviest load of an island lies within what its loads lie within
--     heaviest_later                  an island that stands in the later part has its heaviest load there
--     top_heaviest                    an island that stands last has the last load as its heaviest
-- Assumes nothing.
use Prim.Native.Nat.{ℕ, ◌≤◌, ◌<◌, zero-le}
use mathlib.Core.Path.{◌≡◌, refl, sym, ap, ◌∙◌}
use mathlib.Core.List.{List, [], ◌∷◌, ◌++◌}
use native.Mathlib.Nat.{not-suc-le-zero, le_of_suc-le-suc, suc_inj, suc-ne-zero, le_trans, le-max_left}
use native.Mathlib.Nat.{max-le, max-eq_right, max-zero, le_of_eq}
use native.Mathlib.Decide.{ℕ_discrete}
use native.Mathlib.Omega.{arith}
use lib.ListN.{length, length-append}
use Rattle.model.specs.Plan.{count}
use Rattle.model.specs.Power.{held, heaviest}
use Rattle.optimum.specs.Loads.{AtLeast, AtMost, Sorted}
use Rattle.optimum.proofs.Counts.{count_other, count_append, single_same}
use Rattle.optimum.proofs.Held.{held_same, held_other}

least_append : (w : ℕ) (p q : List ℕ) → AtLeast w (p ++ q) → AtLeast w p × AtLeast w q
least_append w [] q h = (tt, h)
least_append w (u ∷ p) q h = let rest = least_append w p q h.1 in ((h.0, rest.0), rest.1)

least_joined : (w : ℕ) (p q : List ℕ) → AtLeast w p → AtLeast w q → AtLeast w (p ++ q)
least_joined w [] q h k = k
least_joined w (u ∷ p) q h k = (h.0, least_joined w p q h.1 k)

pub most_front : (w : ℕ) (p q : List ℕ) → AtMost w (p ++ q) → AtMost w p
most_front w [] q h = tt
most_front w (u ∷ p) q h = (h.0, most_front w p q h.1)

pub most_back : (w : ℕ) (p q : List ℕ) → AtMost w (p ++ q) → AtMost w q
most_back w [] q h = h
most_back w (u ∷ p) q h = most_back w p q h.1

pub sorted_front : (p q : List ℕ) → Sorted (p ++ q) → Sorted p
sorted_front [] q h = tt
sorted_front (u ∷ p) q h = ((least_append u p q h.0).0, sorted_front p q h.1)

pub sorted_back : (p q : List ℕ) → Sorted (p ++ q) → Sorted q
sorted_back [] q h = h
sorted_back (u ∷ p) q h = sorted_back p q h.1

pub most_taken_out : (w : ℕ) (p b q : List ℕ) → AtMost w (p ++ (b ++ q)) → AtMost w (p ++ q)
most_taken_out w [] b q h = most_back w b q h
most_taken_out w (u ∷ p) b q h = (h.0, most_taken_out w p b q h.1)

pub sorted_taken_out : (p b q : List ℕ) → Sorted (p ++ (b ++ q)) → Sorted (p ++ q)
sorted_taken_out [] b q h = sorted_back b q h
sorted_taken_out (u ∷ p) b q h =
    let front = least_append u p (b ++ q) h.0 in
    (least_joined u p q front.0 (least_append u b q front.1).1, sorted_taken_out p b q h.1)

pub sorted_last : (us : List ℕ) (w : ℕ) → Sorted (us ++ (w ∷ [])) → AtMost w (us ++ (w ∷ []))
sorted_last [] w h = (le_of_eq refl, tt)
sorted_last (u ∷ us) w h = ((least_append u us (w ∷ []) h.0).1.0, sorted_last us w h.1)

pub heaviest_at_least : (u z : ℕ) (a ws : List ℕ) → AtLeast u ws → 0 < count z a → length a ≤ length ws → u ≤ heaviest (held z a ws)
unfolding held heaviest count
heaviest_at_least u z [] ws h some len = absurd (not-suc-le-zero some)
heaviest_at_least u z (y ∷ a) [] h some len = absurd (not-suc-le-zero len)
heaviest_at_least u z (y ∷ a) (w ∷ ws) h some len =
    elim (ℕ_discrete y z) [
      | yes e ↦ rw (held_same y z a w ws e) (le_trans h.0 (le-max_left w (heaviest (held z a ws))))
      | no n ↦
          rw (held_other y z a w ws n)
          (heaviest_at_least u z a ws h.1 (omega (arith, count_other y z a n)) (le_of_suc-le-suc len))
    ]

pub heaviest_at_most : (limit z : ℕ) (a ws : List ℕ) → AtMost limit ws → heaviest (held z a ws) ≤ limit
unfolding held heaviest
heaviest_at_most limit z [] ws h = zero-le
heaviest_at_most limit z (y ∷ a) [] h = zero-le
heaviest_at_most limit z (y ∷ a) (w ∷ ws) h =
    elim (ℕ_discrete y z) [
      | yes e ↦ rw (held_same y z a w ws e) (max-le h.0 (heaviest_at_most limit z a ws h.1))
      | no n ↦ rw (held_other y z a w ws n) (heaviest_at_most limit z a ws h.1)
    ]

pub heaviest_later :
    (z : ℕ) (l a us q : List ℕ)
    → length l ≡ length us
    → length a ≤ length q
    → Sorted (us ++ q)
    → 0 < count z a
    → heaviest (held z (l ++ a) (us ++ q)) ≡ heaviest (held z a q)
unfolding heaviest
heaviest_later z [] a [] q len rest h some = refl
heaviest_later z [] a (u ∷ us) q len rest h some = absurd (suc-ne-zero _ (sym len))
heaviest_later z (y ∷ l) a [] q len rest h some = absurd (suc-ne-zero _ len)
heaviest_later z (y ∷ l) a (u ∷ us) q len rest h some =
    let later : heaviest (held z (l ++ a) (us ++ q)) ≡ heaviest (held z a q) =
    heaviest_later z l a us q (suc_inj len) rest h.1 some in
    elim (ℕ_discrete y z) [
      | yes e ↦
          ap (λ (k : List ℕ). heaviest k) (held_same y z (l ++ a) u (us ++ q) e)
          ∙ max-eq_right
          (heaviest_at_least u z (l ++ a) (us ++ q) h.0 (omega (arith, count_append z l a))
          (omega (arith, length-append l a, length-append us q)))
          ∙ later
      | no n ↦ ap (λ (k : List ℕ). heaviest k) (held_other y z (l ++ a) u (us ++ q) n) ∙ later
    ]

pub top_heaviest :
    (x : ℕ) (c us : List ℕ) (w : ℕ)
    → length c ≡ length us
    → Sorted (us ++ (w ∷ []))
    → heaviest (held x (c ++ (x ∷ [])) (us ++ (w ∷ []))) ≡ w
unfolding held heaviest count
top_heaviest x c us w len sorted =
    heaviest_later x c (x ∷ []) us (w ∷ []) len (le_of_eq refl) sorted (omega (arith, single_same x x refl))
    ∙ ap (λ (l : List ℕ). heaviest l) (held_same x x [] w [] refl)
    ∙ max-zero w
