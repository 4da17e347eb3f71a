-- The two answers that making a board gives, and that no second one fits.
--     board_refused    sizes that do not fit are refused by 1
--     board_made       sizes that fit make the board
--     board_one        two answers to one call are equal
--     allowed_one      so are two answers of `power_allowed` to one board, by the equation of its contract
-- Assumes nothing.
use Prim.Native.Nat.{ℕ}
use mathlib.Core.Path.{◌≡◌, refl, sym, ap, ◌∙◌}
use mathlib.Core.Bool.{Bool}
use mathlib.Core.Logic.{inl, inr}
use native.Mathlib.Omega.{arith}
use lib.Dec.{leb}
use Rattle.std.specs.Prelude.{Result, Ok, Err}
use Rattle.units.specs.declared.Microwatts.{Microwatts}
use Rattle.model.specs.declared.Refusal.{Refusal}
use Rattle.model.specs.declared.Refusal.TheVariants.{Sizes}
use Rattle.model.specs.Limits.{most_island_power}
use Rattle.model.specs.Refusals.{FitSizes, size_conditions, number_of}
use Rattle.model.proofs.Trying.{tried_one, cause_one}
use Rattle.board.specs.declared.Board.{Board}
use Rattle.board.specs.NewBoard.{BoardAnswer}

module _ (islands cores : ℕ) (power : Microwatts) where
  pub board_refused : ¬ (FitSizes islands cores) → BoardAnswer islands cores power (Err Sizes)
  board_refused out = record { tried = inl (out, refl); made = λ none. absurd (omega arith) }

  pub board_made :
      FitSizes islands cores
      → BoardAnswer islands cores power (Ok (record { islands = islands; cores = cores; power = power }))
  board_made fit = record { tried = inr (fit, refl); made = λ none. refl }

  pub board_one : (r s : Result Board Refusal) → BoardAnswer islands cores power r → BoardAnswer islands cores power s → r ≡ s
  board_one r s p q = go r s p q (tried_one (size_conditions islands cores) (number_of r) (number_of s) p.tried q.tried)
    where
      go :
          (r s : Result Board Refusal)
          → BoardAnswer islands cores power r
          → BoardAnswer islands cores power s
          → number_of r ≡ number_of s
          → r ≡ s
      go (Ok b) s p q same = p.made refl ∙ sym (q.made (sym same))
      go (Err c) (Ok b) p q same = p.made same ∙ sym (q.made refl)
      go (Err c) (Err d) p q same = ap Err (cause_one c d same)

pub allowed_one :
    (b : Board) (r s : Bool) → r ≡ leb b.power.0 most_island_power → s ≡ leb b.power.0 most_island_power → r ≡ s
allowed_one b r s p q = p ∙ sym q
