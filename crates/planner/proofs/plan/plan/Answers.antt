-- `plan`: what is handed back of a job that nothing refuses is its answer. Assumes nothing.
use Rattle.std.proofs.Common.{rules}
use Rattle.optimum.proofs.Passing.{tried_passed}
use Rattle.optimum.proofs.Answering.{answer_planned}
use Rattle.planner.specs.Given.{given}
use Rattle.planner.proofs.plan.plan.Goals as goal

pub returns : goal.returns
returns c =
    let job = given c.args.job.now in
    let sound = tried_passed job _ _ (search rules) in
    let done = c.planned.ensures in
    rw (done.least, done.plan_bytes, done.level_bytes) (answer_planned job c.args.plan.now c.args.levels.now sound.0 sound.1)
