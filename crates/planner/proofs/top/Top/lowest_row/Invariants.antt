-- The loop of `lowest_row`: the figures of fewer than n islands stand in row 0. Assumes nothing.
use Rattle.std.proofs.Common.{ℕ, ◌≡◌, ◌<◌}
use Rattle.planner.specs.Rows.{row_at}
use Rattle.planner.specs.Members.{figure}
use Rattle.planner.proofs.top.Top.lowest_row.Given as goal

abbrev pub invariant-loop-n : goal.invariant-loop-n
invariant-loop-n l = (k : ℕ) → k < l.n → row_at l.rows.figures 0 k ≡ figure l.self 0 k
