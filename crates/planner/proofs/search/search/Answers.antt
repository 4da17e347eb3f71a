-- `search`: at first there is nothing to have. Assumes nothing.
use Rattle.planner.proofs.Growing.{known_none}
use Rattle.planner.proofs.search.search.Goals as goal

pub loop-m-init : goal.loop-m-init
loop-m-init c = known_none c.args.positions.now c.args.totals.now
