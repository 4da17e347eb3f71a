-- No second answer fits a table.
--     table_one    two answers to one table are equal
--     level_one    so are two answers of `level` to one list of frequencies and one load, by the equation of its contract
-- Assumes nothing.
use Prim.Native.Nat.{ℕ}
use mathlib.Core.Path.{◌≡◌, refl, sym, ◌∙◌}
use mathlib.Core.List.{List}
use Rattle.std.specs.Prelude.{Result}
use Rattle.units.specs.declared.Kilohertz.{Kilohertz}
use Rattle.model.specs.declared.Refusal.{Refusal}
use Rattle.model.specs.Table.{Table}
use Rattle.model.specs.Level.{lowest}
use Rattle.model.specs.Refusals.{table_conditions, number_of}
use Rattle.model.proofs.Trying.{tried_one, answer_one}
use Rattle.table.specs.Judged.{TableAnswer}

pub table_one : (t : Table) (r s : Result (Unit {0}) Refusal) → TableAnswer t r → TableAnswer t s → r ≡ s
table_one t r s p q = answer_one r s (tried_one (table_conditions t) (number_of r) (number_of s) p q) (λ a b one other. refl)

pub level_one :
    (frequencies : List ℕ) (load : Kilohertz) (r s : ℕ) → r ≡ lowest frequencies load.0 → s ≡ lowest frequencies load.0 → r ≡ s
level_one frequencies load r s p q = p ∙ sym q
