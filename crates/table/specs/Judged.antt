-- What judging a level table answers, and the table that it speaks of.
-- Assumes nothing.
use Rattle.std.specs.Prelude.{ℕ, List, Result}
use Rattle.model.specs.Table.{Table}
use Rattle.model.specs.declared.Refusal.{Refusal}
use Rattle.model.specs.Refusals.{Tried, table_conditions, number_of}

-- the table that is made of two lent lists
abbrev pub table_of : (frequencies powers : List ℕ) → Table
table_of frequencies powers = record { frequencies = frequencies; powers = powers }

-- nothing where it is sound, else the first cause
abbrev pub TableAnswer : Table → Result (Unit {0}) Refusal → Type 0
TableAnswer t r = Tried (table_conditions t) (number_of r)
