-- The loop of `look_up`: the level of every position before k is stored. Assumes nothing.
use Rattle.std.proofs.Common.{◌≡◌, ◌<◌, ℕ, get_or}
use Rattle.model.specs.Level.{lowest}
use Rattle.planner.specs.Given.{given}
use Rattle.planner.proofs.positions.look_up.Given as goal

abbrev pub invariant-loop-k : goal.invariant-loop-k
invariant-loop-k l =
    (k : ℕ) → k < l.k → get_or l.steps k 0 ≡ lowest (given l.sound.job).table.frequencies (get_or l.positions k 0)
