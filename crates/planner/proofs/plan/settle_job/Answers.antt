-- `settle_job`: what is laid out in the lent part of a local array are the padded loads. Assumes nothing.
use Rattle.planner.specs.Given.{given}
use Rattle.planner.proofs.Laying.{laid}
use Rattle.planner.proofs.plan.settle_job.Goals as goal

pub settle-requires-clause-laid_out : goal.settle-requires-clause-laid_out
settle-requires-clause-laid_out c =
    laid (given c.args.sound.now.job) c.args.sound.now.passed _ _ _ c.places-places.ensures.product c.padding.ensures
    c.copy_from_slice.ensures.after
