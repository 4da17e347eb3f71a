-- Stores of lists, one below another.
--     sets_joined    a list that is stored just below another: as if both had been stored as one
--     sets_three     the same of an entry, a list below it and a list below that
-- Assumes nothing.
use Prim.Native.Nat.{ℕ, suc, ◌+◌, ◌<◌}
use mathlib.Core.Path.{◌≡◌, refl, ap, ◌∙◌}
use mathlib.Core.List.{List, [], ◌∷◌, ◌++◌}
use native.Mathlib.Omega.{arith}
use lib.ListN.{length, set}
use lib.Seq.{sets, set_comm}

-- a store before a list that was stored
set_below : (l : List ℕ) (i j a : ℕ) (ys : List ℕ) → i < j → set (sets l j ys) i a ≡ sets (set l i a) j ys
set_below l i j a [] below = refl
set_below l i j a (y ∷ ys) below =
    set_below (set l j y) i (suc j) a ys (omega arith)
    ∙ ap (λ (k : List ℕ). sets k (suc j) ys) (set_comm l j i y a (λ e. omega arith))

pub sets_joined :
    (l : List ℕ) (i j : ℕ) (xs ys : List ℕ) → j ≡ i + length xs → sets (sets l j ys) i xs ≡ sets l i (xs ++ ys)
sets_joined l i j [] ys e = ap (λ (k : ℕ). sets l k ys) (omega arith)
sets_joined l i j (x ∷ xs) ys e =
    ap (λ (k : List ℕ). sets k (suc i) xs) (set_below l i j x ys (omega arith))
    ∙ sets_joined (set l i x) (suc i) j xs ys (omega arith)

pub sets_three :
    (l : List ℕ) (i j k x : ℕ) (low gap : List ℕ)
    → j ≡ i + length low
    → k ≡ j + length gap
    → sets (sets (set l k x) j gap) i low ≡ sets l i (low ++ (gap ++ (x ∷ [])))
sets_three l i j k x low gap lower upper =
    ap (λ (h : List ℕ). sets h i low) (sets_joined l j k gap (x ∷ []) upper) ∙ sets_joined l i j low (gap ++ (x ∷ [])) lower
