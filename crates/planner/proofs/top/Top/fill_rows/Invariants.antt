-- The loop of `fill_rows`: the rows up to r are those of the recurrence. Assumes nothing.
use Rattle.planner.specs.Members.{TopFilled}
use Rattle.planner.proofs.top.Top.fill_rows.Given as goal

abbrev pub invariant-loop-r : goal.invariant-loop-r
invariant-loop-r l = TopFilled l.self l.rows l.r
