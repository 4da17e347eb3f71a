-- What making a board answers: its number by the sizes, and the board that is made.
-- Assumes nothing.
use Rattle.std.specs.Prelude.{ℕ, ◌≡◌, Result, Ok}
use Rattle.units.specs.declared.Microwatts.{Microwatts}
use Rattle.model.specs.Limits.{most_islands, most_cores, most_places, most_island_power}
use Rattle.model.specs.declared.Refusal.{Refusal}
use Rattle.model.specs.Refusals.{Tried, size_conditions, number_of}
use Rattle.board.specs.declared.Board.{Board}

pub record BoardAnswer (islands cores : ℕ) (power : Microwatts) (r : Result Board Refusal) : Type 0 where
  pub tried : Tried (size_conditions islands cores) (number_of r)
  pub made : number_of r ≡ 0 → r ≡ Ok (record { islands = islands; cores = cores; power = power })

-- the limits that the board record names are the model's
pub record LimitsAgree (islands cores places power : ℕ) : Type 0 where
  pub islands_named : islands ≡ most_islands
  pub cores_named : cores ≡ most_cores
  pub places_named : places ≡ most_places
  pub power_named : power ≡ most_island_power
