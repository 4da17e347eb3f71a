-- Which gaps a list of gaps and members has.
--     gap_lowest    in one gap and the member behind it: this gap alone
--     gap_member    in a lower part, a gap and the member behind it: this gap, and those of the lower part
--     end_some      an end of a list that ends with a member has a member, or is empty
-- Assumes nothing.
use Prim.Native.Nat.{ℕ, ◌<◌}
use mathlib.Core.Path.{◌≡◌, refl, sym, ap, subst, ◌∙◌}
use mathlib.Core.Logic.{◌⊎◌, inl, inr}
use mathlib.Core.List.{List, [], ◌∷◌, ◌++◌, head-eq_of_cons-eq, tail-eq_of_cons-eq, append_assoc, append-nil}
use native.Mathlib.Omega.{arith}
use lib.ListN.{length, length-append}
use Rattle.model.specs.Plan.{count}
use Rattle.model.specs.TieRule.{Gap}
use Rattle.optimum.proofs.Counts.{count_same, count_append, count_first, single_same}
use Rattle.optimum.proofs.Lists.{cons_same, cut_twice, cut_last}

-- the place of the first x is one
first_cut : (x : ℕ) (a c d e : List ℕ) → count x a ≡ 0 → count x c ≡ 0 → a ++ (x ∷ d) ≡ c ++ (x ∷ e) → a ≡ c
first_cut x [] [] d e none none' same = refl
first_cut x [] (z ∷ c) d e none none' same = absurd (omega (arith, count_same z x c (sym (head-eq_of_cons-eq same))))
first_cut x (y ∷ a) [] d e none none' same = absurd (omega (arith, count_same y x a (head-eq_of_cons-eq same)))
first_cut x (y ∷ a) (z ∷ c) d e none none' same =
    cons_same y z a c
    (head-eq_of_cons-eq same)
    (first_cut x a c d e
    (omega (arith, count_append x (y ∷ []) a))
    (omega (arith, count_append x (z ∷ []) c))
    (tail-eq_of_cons-eq same))

-- where a gap may start: at the first place, or behind an x
abbrev Start : ℕ → List ℕ → Type 0
Start x b = (b ≡ []) ⊎ ((e : List ℕ) × (b ≡ e ++ (x ∷ [])))

-- an end of what ends with x has an x, unless it is empty
pub end_some : (x : ℕ) (p q : List ℕ) → Start x (p ++ q) → 0 < length q → 0 < count x q
end_some x p q (inl none) some =
    let empty : length (p ++ q) ≡ 0 = ap (λ (l : List ℕ). length l) none in
    absurd (omega (arith, length-append p q))
end_some x p q (inr last) some =
    let (e, whole, ends) = cut_last last.0 x p q (sym last.1) some in
    let sum : count x q ≡ count x (e ++ (x ∷ [])) = ap (count x) ends in
    omega (arith, count_append x e (x ∷ []), single_same x x refl)

-- a gap that starts behind the lower part is the gap there: in front of its x no place is behind an x
gap_behind :
    (x : ℕ) (low gap e c d : List ℕ)
    → count x gap ≡ 0
    → count x c ≡ 0
    → Start x (low ++ e)
    → gap ++ (x ∷ []) ≡ e ++ (c ++ (x ∷ d))
    → (e ≡ []) × (c ≡ gap)
gap_behind x low gap [] c d none free start same = (refl, sym (first_cut x gap c [] d none free same))
gap_behind x low gap (y ∷ e) c d none free start same =
    let sum : count x (gap ++ (x ∷ [])) ≡ count x ((y ∷ e) ++ (c ++ (x ∷ d))) = ap (count x) same in
    absurd
    (omega (
      arith,
      end_some x low (y ∷ e) start (omega arith),
      count_append x gap (x ∷ []),
      count_append x (y ∷ e) (c ++ (x ∷ d)),
      count_append x c (x ∷ d),
      single_same x x refl,
      count_same x x d refl,
    ))

pub gap_lowest :
    (x : ℕ) (gap b c d : List ℕ) → count x gap ≡ 0 → Gap x (gap ++ (x ∷ [])) b c d → (b ≡ []) × (c ≡ gap)
gap_lowest x gap b c d none found = gap_behind x [] gap b c d none found.free found.start found.whole

pub gap_member :
    (x : ℕ) (low gap b c d : List ℕ)
    → count x gap ≡ 0
    → (e : List ℕ) × (low ≡ e ++ (x ∷ []))
    → Gap x (low ++ (gap ++ (x ∷ []))) b c d
    → ((b ≡ low) × (c ≡ gap)) ⊎ ((d' : List ℕ) × Gap x low b c d')
gap_member x low gap b c d none last found =
    elim (cut_twice low (gap ++ (x ∷ [])) b (c ++ (x ∷ d)) found.whole) [
      | inl (e, start, rest) ↦
          let (nothing, same) = gap_behind x low gap e c d none found.free (subst (Start x) start found.start) rest in
          inl (start ∙ ap (λ (l : List ℕ). low ++ l) nothing ∙ append-nil low, same)
      | inr (y, e, whole, rest) ↦
          let some : 0 < count x (y ∷ e) = end_some x b (y ∷ e) (inr (last.0, sym whole ∙ last.1)) (omega arith) in
          let (f, d', cut, free) = count_first x (y ∷ e) some in
          let behind : c ++ (x ∷ d) ≡ f ++ (x ∷ (d' ++ (gap ++ (x ∷ [])))) =
          rest ∙ ap (λ (l : List ℕ). l ++ (gap ++ (x ∷ []))) cut ∙ append_assoc f (x ∷ d') (gap ++ (x ∷ [])) in
          let same : c ≡ f = first_cut x c f d (d' ++ (gap ++ (x ∷ []))) found.free free behind in
          inr (
            d',
            record {
              whole = whole ∙ ap (λ (l : List ℕ). b ++ l) (cut ∙ ap (λ (l : List ℕ). l ++ (x ∷ d')) (sym same));
              free = found.free;
              start = found.start;
            },
          )
    ]
