-- What Fitting says of lists, of the values that the planner holds: no sum over them leaves 64 bits.
--     positions_fit    a run of the positions is one that Fitting speaks of
--     low_gaps_fit     over low rows, whatever a gap gets costs less than 2 ^ 64
--     cost_fits        the total of a top island's run fits in 64 bits
--     figure_fits      so does what the recurrence has for its members
--     filled_low       rows that are those of the recurrence are low enough to be added up
--     row_gaps_fit     so whatever a gap below a member gets costs less than 2 ^ 64
-- Assumes nothing.
use Prim.Native.Nat.{ℕ, suc, ◌+◌, ◌-◌, ◌*◌, ◌≤◌, ◌<◌, ◌^◌}
use mathlib.Core.List.{List}
use native.Mathlib.Nat.{le_of_eq, le_trans}
use native.Mathlib.Omega.{arith}
use lib.ListN.{length, get_or}
use Rattle.model.specs.Limits.{most_cores, most_islands}
use Rattle.planner.specs.declared.charged.Positions.{Positions}
use Rattle.planner.specs.declared.bests.Bests.{Bests}
use Rattle.planner.specs.declared.rows.Rows.{Rows}
use Rattle.planner.specs.declared.top.Top.{Top}
use Rattle.planner.specs.Square.{best_at, run_cost}
use Rattle.planner.specs.Members.{gap_costs, figure, TopFilled}
use Rattle.planner.specs.Bounds.{most_charge, AllBelow, Bounded}
use Rattle.planner.specs.Written.{Low}
use Rattle.planner.proofs.Fitting.{RunFits, below_member, row_most, row_fits, run_most, gaps_fit}

pub positions_fit :
    (p : Positions) (totals : List ℕ) (ρ i m : ℕ)
    → ρ ≤ most_charge
    → m < most_islands
    → i + suc m * p.cores ≤ length p.loads.now
    → Bounded p.cores p.loads.now totals m
    → RunFits p.cores ρ i m p.loads.now totals
positions_fit p totals ρ i m charge few within bounded =
    record {
      some_core = p.some_core;
      few_cores = p.few_cores;
      light = p.light;
      charge = charge;
      few = few;
      within = within;
      bounded = bounded;
    }

pub low_gaps_fit :
    (bests : Bests) (rows : Rows) (i r m n : ℕ)
    → Low rows.figures r m
    → n ≤ m
    → m ≤ bests.islands
    → m < most_islands
    → r < most_cores
    → i + (n * bests.positions.cores + suc r) ≤ length bests.positions.loads.now
    → AllBelow (2 ^ 64) n (gap_costs bests rows i r n)
low_gaps_fit bests rows i r m n low fewer known few members within =
    gaps_fit bests.positions.cores bests.positions.loads.now bests.totals.now rows.figures i r m n
    (λ j g less. bests.bounded j g (le_trans less known)) low fewer few members within

module _ (top : Top) where
  abbrev p : Positions
  p = top.bests.positions

  top_fits : RunFits p.cores top.rate.0 top.start top.inner p.loads.now top.bests.totals.now
  top_fits =
      positions_fit p top.bests.totals.now top.rate.0 top.start top.inner (le_trans (le_of_eq top.charged) (p.cheap.cheap _)) top.few
      top.within (λ i g less. top.bests.bounded i g (le_trans less top.known))

  pub cost_fits : run_cost p.cores p.own.0 p.loads.now p.rates.now (best_at p.cores top.bests.totals.now) top.start top.inner < 2 ^ 64
  cost_fits =
      let fits =
      positions_fit p top.bests.totals.now (get_or p.rates.now (top.start + (top.inner * p.cores + (p.cores - 1))) 0) top.start top.inner
      (p.cheap.cheap _) top.few top.within top_fits.bounded in
      let most = run_most p.cores p.own.0 top.start top.inner p.loads.now p.rates.now top.bests.totals.now fits p.own_low in
      omega (arith, most, top.few)

  pub figure_fits : (r n : ℕ) → r < p.cores → n ≤ top.inner → figure top r n < 2 ^ 64
  figure_fits = row_fits p.cores top.rate.0 top.start top.inner p.loads.now top.bests.totals.now top_fits

  pub filled_low : (rows : Rows) (r : ℕ) → r < p.cores → TopFilled top rows r → Low rows.figures r top.inner
  filled_low rows r lower filled s n low few =
      omega (
        arith,
        filled s n low few,
        row_most p.cores top.rate.0 top.start top.inner p.loads.now top.bests.totals.now top_fits s n (omega arith) few,
      )

  pub row_gaps_fit :
      (rows : Rows) (r n : ℕ)
      → TopFilled top rows r
      → suc r < p.cores
      → n ≤ top.inner
      → AllBelow (2 ^ 64) n (gap_costs top.bests rows top.start r n)
  row_gaps_fit rows r n filled lower few =
      low_gaps_fit top.bests rows top.start r top.inner n (filled_low rows r (omega arith) filled) few top.known top.few
      (omega (arith, p.few_cores))
      (omega (arith, below_member p.cores top.rate.0 top.start top.inner p.loads.now top.bests.totals.now top_fits (suc r) n lower few))
