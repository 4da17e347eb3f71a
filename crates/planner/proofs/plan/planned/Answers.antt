-- `planned`: the parts of the local arrays that belong to the loads are handed back. Assumes nothing.
use Rattle.std.proofs.Common.{ap, ◌∙◌, List, ◌++◌, ℕ, length, drop}
use Rattle.model.specs.Power.{levels}
use Rattle.planner.specs.Given.{given}
use Rattle.planner.proofs.Laying.{lent_front}
use Rattle.planner.proofs.Handing.{shown_plan, shown_islands, shown_steps, steps_low}
use Rattle.planner.proofs.plan.planned.Goals as goal

pub hand_back-requires-clause-islands_in_range : goal.hand_back-requires-clause-islands_in_range
hand_back-requires-clause-islands_in_range c =
    shown_islands (given c.args.sound.now.job) c.args.sound.now.passed _ _ c.places-places.ensures.product c.padding-front.ensures _
    c.settle_job-total.new.full c.settle_job-total.ensures.chosen

pub hand_back-requires-clause-steps_in_range : goal.hand_back-requires-clause-steps_in_range
hand_back-requires-clause-steps_in_range c =
    let job = given c.args.sound.now.job in
    let wide = c.places-places.ensures.product in
    steps_low job c.args.sound.now.passed _ _ wide c.padding-front.ensures _
    c.settle_job-total.new.steps (c.settle_job-total.auto.steps ∙ lent_front job c.args.sound.now.passed _ wide ∙ wide)
    c.settle_job-total.ensures.looked

pub hand_back-requires-clause-looked : goal.hand_back-requires-clause-looked
hand_back-requires-clause-looked c =
    let job = given c.args.sound.now.job in
    let wide = c.places-places.ensures.product in
    shown_steps job c.args.sound.now.passed _ _ wide c.padding-front.ensures _
    c.settle_job-total.new.steps (c.settle_job-total.auto.steps ∙ lent_front job c.args.sound.now.passed _ wide ∙ wide)
    c.settle_job-total.ensures.looked

pub returns : goal.returns
returns c =
    let job = given c.args.sound.now.job in
    let plan =
    shown_plan job c.args.sound.now.passed _ _ c.places-places.ensures.product c.padding-front.ensures _ c.settle_job-total.new.full
    c.settle_job-total.ensures.chosen in
    record {
      least = c.settle_job-total.ensures.least;
      plan_bytes = c.hand_back.ensures.plan_written ∙ ap (λ (l : List ℕ). l ++ drop (length job.loads) c.args.plan.now) plan;
      level_bytes =
          c.hand_back.ensures.levels_written ∙ ap (λ (l : List ℕ). levels job l ++ drop job.islands c.args.levels.now) plan;
    }
