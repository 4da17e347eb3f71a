-- `solve`: the table that the search fills gives the least total, and what is written over all positions is the plan. Assumes nothing.
use Rattle.planner.proofs.Solving.{board_solved}
use Rattle.planner.proofs.plan.solve.Goals as goal

pub returns : goal.returns
returns c =
    board_solved c.args.positions.now _ c.search.new.totals _ _ _ c.requires.whole_board c.requires.as_long c.search.ensures.found
    c.write_run.ensures c.at.ensures
