-- `settle`: the costs of the levels that are looked up are what islands are charged. Assumes nothing.
use Rattle.std.proofs.Common.{sym, ◌∙◌, subst, ℕ, List}
use Rattle.model.specs.Level.{charge}
use Rattle.model.specs.Power.{own}
use Rattle.optimum.specs.OfJob.{best_of, plan_of}
use Rattle.planner.specs.Given.{given}
use Rattle.planner.specs.Positions.{Looked}
use Rattle.planner.proofs.Laying.{whole, few, light, below, priced}
use Rattle.planner.proofs.plan.settle.Goals as goal

pub look_up-requires : goal.look_up-requires
look_up-requires c =
    c.requires.step_a_position ∙ sym (whole (given c.args.sound.now.job) c.args.sound.now.passed _ c.requires.laid_out)

pub charge_all-requires-clause-steps_in_table : goal.charge_all-requires-clause-steps_in_table
charge_all-requires-clause-steps_in_table c =
    below (given c.args.sound.now.job) c.args.sound.now.passed _ c.requires.laid_out _ (c.look_up.auto.steps ∙ c.requires.step_a_position)
    c.look_up.ensures

pub invariant_of-positions-clause-few_places : goal.invariant_of-positions-clause-few_places
invariant_of-positions-clause-few_places c =
    few (given c.args.sound.now.job) c.args.sound.now.passed _ c.requires.laid_out

pub invariant_of-positions-clause-light : goal.invariant_of-positions-clause-light
invariant_of-positions-clause-light c =
    light (given c.args.sound.now.job) c.args.sound.now.passed _ c.requires.laid_out

pub invariant_of-positions-clause-cheap : goal.invariant_of-positions-clause-cheap
invariant_of-positions-clause-cheap c =
    (priced (given c.args.sound.now.job) c.args.sound.now.passed _ c.requires.laid_out _
    (c.look_up.auto.steps ∙ c.requires.step_a_position) c.look_up.ensures _ _ c.places-places.ensures.product c.charge_all.auto.rates
    c.charge_all.ensures).0

pub returns : goal.returns
unfolding own best_of plan_of
returns c =
    let job = given c.args.sound.now.job in
    let laid_out = c.requires.laid_out in
    let charged =
    (priced job c.args.sound.now.passed _ laid_out _ (c.look_up.auto.steps ∙ c.requires.step_a_position) c.look_up.ensures _ _
    c.places-places.ensures.product c.charge_all.auto.rates c.charge_all.ensures).1 in
    let solved = c.solve.ensures (charge job.table) charged in
    record {
      looked = subst (λ (ws : List ℕ). Looked job.table.frequencies ws c.look_up.new.steps) laid_out c.look_up.ensures;
      least = rw (← laid_out, ← c.from.ensures, ← c.islands.ensures, ← c.cores.ensures) solved.0;
      chosen = rw (← laid_out, ← c.from.ensures, ← c.islands.ensures, ← c.cores.ensures) solved.1;
    }
