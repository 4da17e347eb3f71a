-- The loop of `charge_all`: the cost of every position before k is stored. Assumes nothing.
use Rattle.std.proofs.Common.{◌≡◌, ◌<◌, ℕ, get_or}
use Rattle.model.specs.Level.{cost}
use Rattle.planner.specs.Given.{given}
use Rattle.planner.proofs.positions.charge_all.Given as goal

abbrev pub invariant-loop-k : goal.invariant-loop-k
invariant-loop-k l = (k : ℕ) → k < l.k → get_or l.rates k 0 ≡ cost (given l.sound.job).table (get_or l.steps k 0)
