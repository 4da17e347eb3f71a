-- The members of an island: what the recurrence has for them, by the values that the planner holds.
--     gap_costs    what the gap below the highest of r + 2 members costs with all below it, by how many of the m islands stand in it
--     figure       the least cost of a top island's lowest r + 1 members, with n islands in the gaps below them
--     TopFilled    the rows of a top island's lowest r + 1 members have these figures
-- Assumes nothing.
use Rattle.std.specs.Prelude.{ℕ}
use Rattle.optimum.specs.Best.{fill, gap_cost}
use Rattle.planner.specs.declared.bests.Bests.{Bests}
use Rattle.planner.specs.declared.rows.Rows.{Rows}
use Rattle.planner.specs.declared.top.Top.{Top}
use Rattle.planner.specs.Square.{best_at}
use Rattle.planner.specs.Rows.{row_at, Filling}

abbrev pub gap_costs : (bests : Bests) (rows : Rows) (i r m : ℕ) → ℕ → ℕ
gap_costs bests rows i r m =
    let Q = bests.positions.cores in
    gap_cost Q (best_at Q bests.totals.now) (row_at rows.figures r) i r m

abbrev pub figure : (top : Top) (r n : ℕ) → ℕ
figure top r n =
    let p = top.bests.positions in
    fill p.cores p.loads.now (best_at p.cores top.bests.totals.now) top.rate.0 top.start r n

abbrev pub TopFilled : (top : Top) (rows : Rows) (r : ℕ) → Type 0
TopFilled top rows r =
    let p = top.bests.positions in
    Filling p.cores p.loads.now (best_at p.cores top.bests.totals.now) top.rate.0 top.start rows.figures r top.inner
