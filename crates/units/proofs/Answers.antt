-- No second answer fits a call of these functions: each contract is an equation for the only field, or for the bool.
--     of_level_one     two kilohertz that a level's frequency is made into are equal
--     carries_one      two answers of `Kilohertz::carries` to one level and one load
--     picowatts_one    two picowatts that one power is made into
-- The premises are the equations of the contracts. Assumes nothing.
use Prim.Native.Nat.{ℕ, ◌*◌}
use mathlib.Core.Path.{◌≡◌, sym, ap, ◌∙◌}
use mathlib.Core.Bool.{Bool}
use lib.Dec.{leb}
use Rattle.units.specs.declared.Kilohertz.{Kilohertz}
use Rattle.units.specs.declared.Microwatts.{Microwatts}
use Rattle.units.specs.declared.Picowatts.{Picowatts}

pub of_level_one : (frequency : ℕ) (r s : Kilohertz) → r.0 ≡ frequency → s.0 ≡ frequency → r ≡ s
of_level_one frequency r s p q = ap (λ (n : ℕ). record { 0 = n }) (p ∙ sym q)

pub carries_one : (level load : Kilohertz) (r s : Bool) → r ≡ leb load.0 level.0 → s ≡ leb load.0 level.0 → r ≡ s
carries_one level load r s p q = p ∙ sym q

pub picowatts_one : (power : Microwatts) (r s : Picowatts) → r.0 ≡ power.0 * 1000000 → s.0 ≡ power.0 * 1000000 → r ≡ s
picowatts_one power r s p q = ap (λ (n : ℕ). record { 0 = n }) (p ∙ sym q)
