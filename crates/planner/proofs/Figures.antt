-- The figures of rows, and which gap costs least by them.
--     one_below        a number above 0 is one more than the one below it
--     gap_new          a gap of one island more, which costs less than all of fewer, is the first that costs least
--     gap_kept         and one that does not is not
--     gap_by_rows      rows that are those of the recurrence give the costs of gaps that the recurrence has
--     lowest_figure    what the code adds up for a top island's lowest member is what the recurrence has
--     next_figure      and for one member more
-- Assumes nothing.
use Prim.Native.Nat.{ℕ, suc, ◌+◌, ◌-◌, ◌*◌, ◌≤◌, ◌<◌}
use mathlib.Core.Path.{◌≡◌, sym, ap, subst, ◌∙◌}
use mathlib.Core.List.{List}
use native.Mathlib.Nat.{le_refl, le_trans, sub-le}
use native.Mathlib.Omega.{arith}
use lib.ListN.{get_or}
use Rattle.optimum.specs.Best.{first, least, load_at, gap_cost}
use Rattle.optimum.proofs.First.{first_new, first_kept, least_same}
use Rattle.optimum.proofs.Recurrence.{fill_lowest, fill_member}
use Rattle.planner.specs.Square.{best_at}
use Rattle.planner.specs.Rows.{row_at}
use Rattle.planner.specs.Members.{gap_costs, figure, TopFilled}
use Rattle.planner.specs.declared.rows.Rows.{Rows}
use Rattle.planner.specs.declared.top.Top.{Top}

pub one_below : (n : ℕ) → 0 < n → suc (n - 1) ≡ n
one_below n some = omega arith

module _ (g : ℕ) (h : ℕ → ℕ) (some : 0 < g) where
  pub gap_new : h g < h (first (g - 1) h) → first g h ≡ g
  gap_new less = subst (λ (k : ℕ). h k < h (first (g - 1) h) → first k h ≡ k) (one_below g some) (first_new (g - 1) h) less

  pub gap_kept : ¬ (h g < h (first (g - 1) h)) → first g h ≡ first (g - 1) h
  gap_kept more =
      subst (λ (k : ℕ). ¬ (h k < h (first (g - 1) h)) → first k h ≡ first (g - 1) h) (one_below g some) (first_kept (g - 1) h) more

pub gap_by_rows :
    (Q : ℕ) (b : ℕ → ℕ → ℕ) (row f : ℕ → ℕ) (i r n : ℕ)
    → ((k : ℕ) → k ≤ n → row k ≡ f k)
    → (g : ℕ)
    → gap_cost Q b row i r n g ≡ gap_cost Q b f i r n g
unfolding gap_cost
gap_by_rows Q b row f i r n same g =
    ap (λ (c : ℕ). b (i + ((n - g) * Q + suc r)) g + c) (same (n - g) (sub-le n g))

module _ (top : Top) where
  abbrev Q : ℕ
  Q = top.bests.positions.cores

  abbrev ws : List ℕ
  ws = top.bests.positions.loads.now

  abbrev b : ℕ → ℕ → ℕ
  b = best_at Q top.bests.totals.now

  -- what the member at a position is charged
  abbrev charged : ℕ → ℕ
  charged k = top.rate.0 * get_or ws k 0

  pub lowest_figure : (n : ℕ) → charged (top.start + n * Q) + b top.start n ≡ figure top 0 n
  unfolding load_at
  lowest_figure n =
      ap (λ (k : ℕ). charged k + b top.start n) (omega arith) ∙ sym (fill_lowest Q ws b top.rate.0 top.start n)

  pub next_figure :
      (rows : Rows) (r n cost : ℕ)
      → TopFilled top rows r
      → n ≤ top.inner
      → cost ≡ least n (gap_costs top.bests rows top.start r n)
      → charged (top.start + (n * Q + (r + 1))) + cost ≡ figure top (suc r) n
  unfolding load_at
  next_figure rows r n cost filled few is =
      let i = top.start in
      ap (λ (k : ℕ). charged k + cost) (omega arith)
      ∙ ap (λ (rest : ℕ). charged (i + (n * Q + suc r)) + rest)
      (is
      ∙ least_same n (gap_costs top.bests rows i r n) (gap_cost Q b (figure top r) i r n)
      (λ g within.
      gap_by_rows Q b (row_at rows.figures r) (figure top r) i r n (λ k fewer. filled r k (le_refl r) (le_trans fewer few)) g))
      ∙ sym (fill_member Q ws b top.rate.0 i r n)
