-- The loop of `number_levels`: the bytes are those that the first k loads give. Assumes nothing.
use Rattle.planner.specs.Given.{given}
use Rattle.planner.proofs.LevelBytes.{SoFar}
use Rattle.planner.proofs.bytes.number_levels.Given as goal

abbrev pub invariant-loop-k : goal.invariant-loop-k
invariant-loop-k l = SoFar (given l.sound.job) l.plan l.steps l.k l.numbers
