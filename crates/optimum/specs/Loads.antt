-- What the mathematics asks of the loads and of the charge, and nothing else.
--     AtLeast       every load of a list is at least so heavy
--     AtMost        every load of a list is at most so heavy
--     Sorted        loads that come lightest first
--     NeverFalls    a charge that never falls as the heaviest load grows, up to a limit
--     At            loads that stand at a place of the list of all loads
-- Assumes nothing.
use Rattle.std.specs.Prelude.{ℕ, ◌≤◌, ◌≡◌, List, [], ◌∷◌, ◌++◌, drop}

abbrev pub AtLeast : ℕ → List ℕ → Type 0
AtLeast w [] = Unit {0}
AtLeast w (u ∷ us) = (w ≤ u) × AtLeast w us

abbrev pub AtMost : ℕ → List ℕ → Type 0
AtMost w [] = Unit {0}
AtMost w (u ∷ us) = (u ≤ w) × AtMost w us

-- "Loads come sorted, lightest first."
abbrev pub Sorted : List ℕ → Type 0
Sorted [] = Unit {0}
Sorted (u ∷ us) = AtLeast u us × Sorted us

-- the one law that the optimum asks of a table, an idle power or a rounding
abbrev pub NeverFalls : (ℕ → ℕ) → ℕ → Type 0
NeverFalls rate limit = (w w' : ℕ) → w ≤ w' → w' ≤ limit → rate w ≤ rate w'

-- behind the first i loads of ws stand those of us, and then others
abbrev pub At : List ℕ → ℕ → List ℕ → Type 0
At ws i us = (rest : List ℕ) × (drop i ws ≡ us ++ rest)
