-- The loop of `least_gap`: of the gaps of fewer than g islands, the first that costs least, and what it costs. Assumes nothing.
use Rattle.std.proofs.Common.{◌-◌, ◌≡◌}
use Rattle.optimum.specs.Best.{first}
use Rattle.planner.specs.Members.{gap_costs}
use Rattle.planner.proofs.bests.Bests.least_gap.Given as goal

abbrev pub invariant-loop-g : goal.invariant-loop-g
invariant-loop-g l =
    let costs = gap_costs l.self l.rows l.start l.r l.m in
    record { islands : l.least.islands ≡ first (l.g - 1) costs; cost : l.least.cost.0 ≡ costs l.least.islands }
