-- `fill_rows`: the figures of the recurrence are low. Assumes nothing.
use Rattle.std.proofs.Common.{arith}
use Rattle.planner.proofs.TopFits.{filled_low}
use Rattle.planner.proofs.top.Top.fill_rows.Goals as goal

pub returns-clause-low : goal.returns-clause-low
returns-clause-low c =
    filled_low c.args.self.now c.loop-r.rows _ (omega (arith, c.args.self.now.bests.positions.some_core))
    (λ s n low few. c.loop-r.invariant s n (omega arith) few)
