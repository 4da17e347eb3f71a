-- Entries that stand in a list in a given order, with others between them.
--     Has                       such entries
--     has_rest                  without the first of the entries
--     has_left, has_right       in the first and in the second of two lists
--     has_join, has_cut         some in the one and the rest in the other, put together and taken apart
--     has_end                   the last of them stands in a list, or is the entry behind it
--     some_has, has_some        a list has what is counted in it, and counts what it has
--     has_placed, has_place     from places to entries in order, and back
-- Assumes nothing.
use Prim.Native.Nat.{ℕ, zero, suc, ◌≤◌, ◌<◌}
use mathlib.Core.Path.{◌≡◌}
use mathlib.Core.Logic.{◌⊎◌, inl, inr}
use mathlib.Core.List.{List, [], ◌∷◌, ◌++◌}
use native.Mathlib.Nat.{not-suc-le-zero}
use native.Mathlib.Decide.{ℕ_discrete}
use native.Mathlib.Omega.{arith}
use lib.ListN.{length, get_or, take, drop}
use Rattle.model.specs.Plan.{count}
use Rattle.optimum.proofs.Counts.{count_same, count_other, count_later}

abbrev pub Has : List ℕ → List ℕ → Type 0
Has [] a = Unit {0}
Has (s ∷ ss) [] = ⊥
Has (s ∷ ss) (p ∷ a) = ((p ≡ s) × Has ss a) ⊎ Has (s ∷ ss) a

has_later : (s : List ℕ) (p : ℕ) (a : List ℕ) → Has s a → Has s (p ∷ a)
has_later [] p a h = tt
has_later (x ∷ s) p a h = inr h

pub has_rest : (x : ℕ) (s a : List ℕ) → Has (x ∷ s) a → Has s a
has_rest x s [] h = absurd h
has_rest x s (p ∷ a) (inl h) = has_later s p a h.1
has_rest x s (p ∷ a) (inr h) = has_later s p a (has_rest x s a h)

pub has_left : (s a b : List ℕ) → Has s a → Has s (a ++ b)
has_left [] a b h = tt
has_left (x ∷ s) [] b h = absurd h
has_left (x ∷ s) (p ∷ a) b (inl h) = inl (h.0, has_left s a b h.1)
has_left (x ∷ s) (p ∷ a) b (inr h) = inr (has_left (x ∷ s) a b h)

pub has_right : (s a b : List ℕ) → Has s b → Has s (a ++ b)
has_right s [] b h = h
has_right s (p ∷ a) b h = has_later s p (a ++ b) (has_right s a b h)

pub has_join : (s t a b : List ℕ) → Has s a → Has t b → Has (s ++ t) (a ++ b)
has_join [] t a b h k = has_right t a b k
has_join (x ∷ s) t [] b h k = absurd h
has_join (x ∷ s) t (p ∷ a) b (inl h) k = inl (h.0, has_join s t a b h.1 k)
has_join (x ∷ s) t (p ∷ a) b (inr h) k = inr (has_join (x ∷ s) t a b h k)

-- entries of two lists: the first k in the one, the rest in the other
pub has_cut : (s a b : List ℕ) → Has s (a ++ b) → (k : ℕ) × Has (take k s) a × Has (drop k s) b
has_cut s [] b h = (0, tt, h)
has_cut [] (p ∷ a) b h = (0, tt, tt)
has_cut (x ∷ s) (p ∷ a) b (inl h) =
    let rest = has_cut s a b h.1 in
    (suc rest.0, inl (h.0, rest.1), rest.2)
has_cut (x ∷ s) (p ∷ a) b (inr h) =
    let rest = has_cut (x ∷ s) a b h in
    (rest.0, has_later (take rest.0 (x ∷ s)) p a rest.1, rest.2)

has_nothing : (s : List ℕ) (q : ℕ) → ¬ (Has (s ++ (q ∷ [])) [])
has_nothing [] q h = h
has_nothing (y ∷ s) q h = h

-- the last entry stands in the list before, or is the one behind it
pub has_end :
    (s : List ℕ) (q x : ℕ) (a : List ℕ)
    → Has (s ++ (q ∷ [])) (a ++ (x ∷ []))
    → Has (s ++ (q ∷ [])) a ⊎ (Has s a × (x ≡ q))
has_end [] q x [] (inl h) = inr (tt, h.0)
has_end [] q x [] (inr h) = absurd h
has_end (y ∷ s) q x [] (inl h) = absurd (has_nothing s q h.1)
has_end (y ∷ s) q x [] (inr h) = absurd h
has_end [] q x (p ∷ a) (inl h) = inl (inl (h.0, tt))
has_end [] q x (p ∷ a) (inr h) =
    elim (has_end [] q x a h) [
      | inl k ↦ inl (inr k)
      | inr k ↦ inr (tt, k.1)
    ]
has_end (y ∷ s) q x (p ∷ a) (inl h) =
    elim (has_end s q x a h.1) [
      | inl k ↦ inl (inl (h.0, k))
      | inr k ↦ inr (inl (h.0, k.0), k.1)
    ]
has_end (y ∷ s) q x (p ∷ a) (inr h) =
    elim (has_end (y ∷ s) q x a h) [
      | inl k ↦ inl (inr k)
      | inr k ↦ inr (inr k.0, k.1)
    ]

pub some_has : (z : ℕ) (a : List ℕ) → 0 < count z a → Has (z ∷ []) a
unfolding count
some_has z [] some = absurd (not-suc-le-zero some)
some_has z (y ∷ a) some =
    elim (ℕ_discrete y z) [
      | yes e ↦ inl (e, tt)
      | no n ↦ inr (some_has z a (omega (arith, count_other y z a n)))
    ]

pub has_some : (z : ℕ) (s a : List ℕ) → Has (z ∷ s) a → 0 < count z a
has_some z s [] h = absurd h
has_some z s (p ∷ a) (inl h) = omega (arith, count_same p z a h.0)
has_some z s (p ∷ a) (inr h) = count_later p z a (has_some z s a h)

-- from places to entries in order, and back
pub has_placed :
    (x : ℕ) (s a : List ℕ) (k j : ℕ)
    → k ≤ j
    → j < length a
    → get_or a j 0 ≡ x
    → Has s (drop (suc j) a)
    → Has (x ∷ s) (drop k a)
has_placed x s [] k j from within e h = absurd (not-suc-le-zero within)
has_placed x s (p ∷ a) zero zero from within e h = inl (e, h)
has_placed x s (p ∷ a) zero (suc j) from within e h = inr (has_placed x s a zero j (omega arith) (omega arith) e h)
has_placed x s (p ∷ a) (suc k) zero from within e h = absurd (not-suc-le-zero from)
has_placed x s (p ∷ a) (suc k) (suc j) from within e h = has_placed x s a k j (omega arith) (omega arith) e h

pub has_place :
    (x : ℕ) (s a : List ℕ) (k : ℕ)
    → Has (x ∷ s) (drop k a)
    → (j : ℕ) × (k ≤ j) × (j < length a) × (get_or a j 0 ≡ x) × Has s (drop (suc j) a)
has_place x s [] zero h = absurd h
has_place x s [] (suc k) h = absurd h
has_place x s (p ∷ a) zero (inl h) = (0, omega arith, omega arith, h.0, h.1)
has_place x s (p ∷ a) zero (inr h) =
    let rest = has_place x s a zero h in
    (suc rest.0, omega arith, omega (arith, rest.2), rest.3, rest.4)
has_place x s (p ∷ a) (suc k) h =
    let rest = has_place x s a k h in
    (suc rest.0, omega (arith, rest.1), omega (arith, rest.2), rest.3, rest.4)
