-- `number_levels`: a load more, be it 0 or above, gives the bytes of one load more, and at the end they are those of all. Assumes nothing.
use Rattle.std.proofs.Common.{arith}
use Rattle.planner.specs.Given.{given}
use Rattle.planner.proofs.LevelBytes.{so_far_none, so_far_more, so_far_idle, so_far_all}
use Rattle.planner.proofs.bytes.number_levels.Goals as goal
use Rattle.planner.proofs.bytes.number_levels.Goals.{then-load-gt0, else-load-gt0}

pub loop-k-init : goal.loop-k-init
loop-k-init c = so_far_none (given c.args.sound.now.job) _ _ _ c.requires.all_zero c.requires.number_an_island

pub loop-k-preserved : goal.loop-k-preserved
loop-k-preserved c =
    let job = given c.args.sound.now.job in
    let ordered = c.args.sound.now.passed.well.ordered in
    elim c.if-load-gt0.branch [
      | then-load-gt0 w ↦
          so_far_more job _ _ ordered c.requires.island_a_load _ (omega arith) _ c.loop-k.invariant _ _ w.numbers-is
          w.if-load-gt0.true c.requires.looked c.requires.islands_in_range w.index.ensures
      | else-load-gt0 w ↦
          so_far_idle job _ _ ordered c.requires.island_a_load _ (omega arith) _ c.loop-k.invariant _ w.numbers-is
          w.if-load-gt0.false
    ]

pub returns : goal.returns
returns c = so_far_all (given c.args.sound.now.job) _ _ _ _ c.requires.island_a_load c.loop-k.invariant (omega arith)
