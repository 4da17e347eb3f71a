-- What is known of each position, by its place in a list beside the loads. The list `steps` has levels counted from 0; level numbers are
-- counted from 1.
--     Looked          the level of each load, counted from 0
--     Costed          the cost of each of these levels
--     Charged         what an island is charged whose heaviest load is that one
--     Below           every entry of a list is below a bound
--     Blank           every entry of a list is 0
-- Assumes nothing.
use Rattle.std.specs.Prelude.{ℕ, ◌<◌, ◌≡◌, List, length, get_or}
use Rattle.model.specs.Table.{Table}
use Rattle.model.specs.Level.{lowest, cost}

abbrev pub Looked : (frequencies ws steps : List ℕ) → Type 0
Looked frequencies ws steps = (k : ℕ) → k < length ws → get_or steps k 0 ≡ lowest frequencies (get_or ws k 0)

abbrev pub Costed : (t : Table) (steps rates : List ℕ) → Type 0
Costed t steps rates = (k : ℕ) → k < length steps → get_or rates k 0 ≡ cost t (get_or steps k 0)

abbrev pub Charged : (rate : ℕ → ℕ) (ws rates : List ℕ) → Type 0
Charged rate ws rates = (k : ℕ) → k < length ws → get_or rates k 0 ≡ rate (get_or ws k 0)

abbrev pub Below : ℕ → List ℕ → Type 0
Below bound xs = (k : ℕ) → k < length xs → get_or xs k 0 < bound

abbrev pub Blank : List ℕ → Type 0
Blank xs = (k : ℕ) → get_or xs k 0 ≡ 0
