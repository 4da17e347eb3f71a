-- The nine causes of a refusal in their order, and "the first that applies". For each number stands what has to hold; the cause that
-- 01 names is that it does not.
--     Condition      a number, and what has to hold so that a job is not refused by it
--     Tried          a number is that of the first condition that does not hold, or 0 where all hold
--     AllHold        all conditions of a list hold
--     FirstCause     the same of a number above 0, in plain words: all before it hold, and it does not
--     FitSizes, Ordered, last_of, RoomEnough    what 1, 7, 8 and 9 speak of
--     size_conditions, table_conditions, power_conditions, load_conditions, room_conditions    the rows 1; 2 to 4; 5; 6 to 8; 9
--     conditions     the nine of a job and of the lengths of the two lent buffers
--     cause_number   the number of each case of the enum
--     number_of      the number of an answer that may be refused, whatever else it holds
-- Assumes nothing.
use Rattle.std.specs.Prelude.{ℕ, ◌+◌, ◌-◌, ◌*◌, ◌≤◌, ◌<◌, ◌≡◌, ◌⊎◌, List, [], ◌∷◌, ◌++◌, length, get_or, Result, Ok, Err}
use Rattle.model.specs.declared.Refusal.{Refusal}
use Rattle.model.specs.declared.Refusal.TheVariants.{Sizes, Levels, Ranges, Slopes, IslandPower, Count, Order, Speed, Buffers}
use Rattle.model.specs.Limits.{most_islands, most_cores, most_island_power}
use Rattle.model.specs.Table.{Table, WellShaped, WellRanged, NotFalling}
use Rattle.model.specs.Job.{Job}

-- a row of 01's table of refusals, turned round
pub record Condition : Type 1 where
  pub number : ℕ
  pub holds : Type 0

-- "They are tried in this order and the first that applies is given."
abbrev pub Tried : List Condition → ℕ → Type 0
Tried [] n = n ≡ 0
Tried (c ∷ rest) n = ((¬ c.holds) × (n ≡ c.number)) ⊎ (c.holds × Tried rest n)

-- all conditions of a list hold
abbrev pub AllHold : List Condition → Type 0
AllHold [] = Unit {0}
AllHold (c ∷ cs) = c.holds × AllHold cs

-- the first of a list that does not hold, and its number
pub record FirstCause (cs : List Condition) (n : ℕ) : Type 1 where
  pub before : List Condition
  pub cause : Condition
  pub after : List Condition
  pub in_order : cs ≡ before ++ (cause ∷ after)
  pub all_before : AllHold before
  pub applies : ¬ cause.holds
  pub its_number : n ≡ cause.number

-- refused by 1: "V or Q is 0 or above 8"
pub record FitSizes (islands cores : ℕ) : Type 0 where
  pub some_island : 1 ≤ islands
  pub few_islands : islands ≤ most_islands
  pub some_core : 1 ≤ cores
  pub few_cores : cores ≤ most_cores

-- refused by 7: "a load below the one before it"
abbrev pub Ordered : List ℕ → Type 0
Ordered ws = (k : ℕ) → k + 1 < length ws → get_or ws k 0 ≤ get_or ws (k + 1) 0

-- the last entry of a list; 0 where it has none, so that a list without loads is never too fast
abbrev pub last_of : List ℕ → ℕ
last_of xs = get_or xs (length xs - 1) 0

-- refused by 9: "plan buffer shorter than n, or level buffer shorter than V"
pub record RoomEnough (job : Job) (plan_length level_length : ℕ) : Type 0 where
  pub plan_room : length job.loads ≤ plan_length
  pub level_room : job.islands ≤ level_length

-- 1
abbrev pub size_conditions : (islands cores : ℕ) → List Condition
size_conditions islands cores = record { number = 1; holds = FitSizes islands cores } ∷ []

-- 2 to 4
abbrev pub table_conditions : Table → List Condition
table_conditions t =
    record { number = 2; holds = WellShaped t } ∷ record { number = 3; holds = WellRanged t } ∷ record { number = 4; holds = NotFalling t } ∷ []

-- 5: "island power above 1000000000"
abbrev pub power_conditions : ℕ → List Condition
power_conditions power = record { number = 5; holds = power ≤ most_island_power } ∷ []

-- 6 to 8: "more loads than V·Q"; "a load below the one before it"; "the last load above the last frequency"
abbrev pub load_conditions : Job → List Condition
load_conditions job =
    record { number = 6; holds = length job.loads ≤ job.islands * job.cores }
    ∷ record { number = 7; holds = Ordered job.loads }
    ∷ record { number = 8; holds = last_of job.loads ≤ last_of job.table.frequencies }
    ∷ []

-- 9
abbrev pub room_conditions : (job : Job) (plan_length level_length : ℕ) → List Condition
room_conditions job plan_length level_length = record { number = 9; holds = RoomEnough job plan_length level_length } ∷ []

-- all nine, in 01's order
abbrev pub conditions : (job : Job) (plan_length level_length : ℕ) → List Condition
conditions job plan_length level_length =
    size_conditions job.islands job.cores
    ++ (table_conditions job.table
    ++ (power_conditions job.island_power ++ (load_conditions job ++ room_conditions job plan_length level_length)))

-- the table's numbers, for the enum
abbrev pub cause_number : Refusal → ℕ
cause_number Sizes = 1
cause_number Levels = 2
cause_number Ranges = 3
cause_number Slopes = 4
cause_number IslandPower = 5
cause_number Count = 6
cause_number Order = 7
cause_number Speed = 8
cause_number Buffers = 9

-- "The answer is 0" where nothing is refused, or the number of the cause
abbrev pub number_of : {A : Type 0} → Result A Refusal → ℕ
number_of (Ok a) = 0
number_of (Err cause) = cause_number cause
