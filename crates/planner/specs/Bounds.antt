-- What keeps every sum within 64 bits.
--     most_charge    the cost of a level is at most this: the highest power over the lowest frequency, which divide without rest
--     most_member    what one load is charged is at most this: at the highest frequency
--     most_own       what an active island draws by itself, in picowatts, is at most this
--     most_draw      what an island draws is at most this: its own power and a member on every core
--     AllBelow       each of m + 1 figures is below a bound
--     Light          every load is within the highest frequency that a table may have
--     Cheap          a charge for every position, none too high
--     Bounded        what the table has for a run of at most v islands is no more than so many islands may draw
-- Assumes nothing.
use Rattle.std.specs.Prelude.{ℕ, ◌+◌, ◌*◌, ◌/◌, ◌≤◌, ◌<◌, ◌≡◌, List, length, get_or}
use Rattle.model.specs.Limits.{million, least_frequency, most_frequency, most_power, most_island_power, most_cores}
use Rattle.planner.specs.Square.{best_at}

abbrev pub most_charge : ℕ
most_charge = most_power * million / least_frequency

abbrev pub most_member : ℕ
most_member = most_charge * most_frequency

abbrev pub most_own : ℕ
most_own = most_island_power * million

abbrev pub most_draw : ℕ
most_draw = most_own + most_cores * most_member

abbrev pub AllBelow : (bound m : ℕ) (h : ℕ → ℕ) → Type 0
AllBelow bound m h = (g : ℕ) → g ≤ m → h g < bound

abbrev pub Light : List ℕ → Type 0
Light ws = (k : ℕ) → get_or ws k 0 ≤ most_frequency

pub record Cheap (ws rates : List ℕ) : Type 0 where
  pub same_length : length rates ≡ length ws
  pub cheap : (k : ℕ) → get_or rates k 0 ≤ most_charge

abbrev pub Bounded : (Q : ℕ) (ws bests : List ℕ) (v : ℕ) → Type 0
Bounded Q ws bests v = (i g : ℕ) → g ≤ v → i + g * Q ≤ length ws → best_at Q bests i g ≤ g * most_draw
