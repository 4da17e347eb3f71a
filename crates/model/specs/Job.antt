-- A job, as the caller hands it over: numbers and lists of any size, in range or not.
-- Assumes nothing.
use Rattle.std.specs.Prelude.{ℕ, List}
use Rattle.model.specs.Table.{Table}

-- "a number of islands V, a number of cores per island Q, the power that an active island draws by itself [microwatt], a table of
-- levels, and a list of loads [kHz]"
pub record Job : Type 0 where
  pub islands : ℕ
  pub cores : ℕ
  pub island_power : ℕ
  pub table : Table
  pub loads : List ℕ
