-- A run of v islands counts 16 v, and the walker with m islands in the gaps below r + 1 members 16 m + r + 1: a run hands on one island
-- less, and the walker a gap's run, or one member less. Assumes nothing.
use Rattle.std.proofs.Common.{◌+◌, ◌*◌}
use Rattle.planner.proofs.bests.Bests.+write_gaps_write_run.Given as goal

abbrev pub decreases-write_gaps : goal.decreases-write_gaps
decreases-write_gaps l = l.below.islands * 16 + l.r + 1

abbrev pub decreases-write_run : goal.decreases-write_run
decreases-write_run l = l.run.islands * 16
