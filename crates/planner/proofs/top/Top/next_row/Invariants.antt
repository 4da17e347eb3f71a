-- The loop of `next_row`: the rows below are as they were, and the figures of fewer than n islands stand in the next. Assumes nothing.
use Rattle.std.proofs.Common.{ℕ, suc, ◌≡◌, ◌<◌}
use Rattle.planner.specs.Rows.{row_at}
use Rattle.planner.specs.Members.{figure, TopFilled}
use Rattle.planner.proofs.top.Top.next_row.Given as goal

abbrev pub invariant-loop-n : goal.invariant-loop-n
invariant-loop-n l = record {
  below : TopFilled l.self l.rows l.r;
  filled : (k : ℕ) → k < l.n → row_at l.rows.figures (suc l.r) k ≡ figure l.self (suc l.r) k;
}
