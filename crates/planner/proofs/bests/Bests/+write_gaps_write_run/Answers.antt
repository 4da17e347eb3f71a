-- `write_run` and `write_gaps` meet their contracts: what the stores come to is in Writing. Assumes nothing.
use Rattle.std.proofs.Common.{arith}
use Rattle.std.proofs.lemmas.Grind.{common_steps}
use Rattle.optimum.proofs.Recurrence.{islands_parted}
use Rattle.planner.proofs.Writing.{found_within, lowest_written, member_written, top_made, run_written}
use Rattle.planner.proofs.bests.Bests.+write_gaps_write_run.Goals as goal

pub write_gaps-returns-then-r-lt1 : goal.write_gaps-returns-then-r-lt1
write_gaps-returns-then-r-lt1 t c =
    lowest_written c.args.self.now c.args.rows.now.figures c.args.full.now _ _ _ _ _ _ c.if-r-lt1.true c.write_run.ensures

pub write_gaps-write_run-requires-2 : goal.write_gaps-write_run-requires-2
write_gaps-write_run-requires-2 t c =
    let within = found_within _ _ _ c.least_gap-gap.ensures.smallest in
    let parts = islands_parted _ _ c.args.self.now.positions.cores within in
    (omega (arith, within), grind (arith, common_steps, within, parts))

pub write_gaps-returns : goal.write_gaps-returns
write_gaps-returns t c =
    member_written c.args.self.now c.args.rows.now.figures c.args.full.now _ _ _ _ _ _ _ _ (omega arith)
    c.least_gap-gap.ensures.smallest c.write_run-2.ensures c.write_gaps.ensures

pub write_run-returns : goal.write_run-returns
write_run-returns t c =
    let e = c.top.ensures in
    let made = top_made c.top.result c.fill_rows.new.rows c.args.self.now c.args.run.start _ e.bests e.start e.inner c.fill_rows.ensures.filled in
    run_written c.args.self.now c.fill_rows.new.rows.figures c.args.full.now _ c.top.result.rate.0 c.args.run.start _ c.args.run.islands
    (omega arith) c.requires.within made.0 made.1 c.write_gaps.ensures
