-- What is handed back of a job that nothing refuses.
--     shown_plan    the part of the full plan that belongs to the job's own loads is what is shown
--     shown_steps   the same part of the levels of all positions has those of the loads
--     shown_islands, steps_low    all of them are in range
-- Assumes nothing.
use Prim.Native.Nat.{ℕ, ◌+◌, ◌-◌, ◌*◌, ◌<◌}
use mathlib.Core.Path.{◌≡◌, refl, sym, ap, ◌∙◌, subst}
use mathlib.Core.List.{List, ◌++◌}
use native.Mathlib.Omega.{arith}
use lib.ListN.{length, get_or, take, drop, replicate, length-replicate, length-append, length-drop}
use lib.Seq.{take_at, drop-append-le, get_or-drop, get_or-append-add}
use Rattle.model.specs.Limits.{most_levels}
use Rattle.model.specs.Level.{lowest}
use Rattle.model.specs.Job.{Job}
use Rattle.model.specs.Plan.{padding, padded, shown, Named}
use Rattle.optimum.specs.OfJob.{plan_of}
use Rattle.optimum.specs.Passed.{Passed}
use Rattle.optimum.proofs.NamedPlans.{full_length}
use Rattle.optimum.proofs.DemandTwo.{plan_uncrossed, plan_placement}
use Rattle.planner.specs.Positions.{Looked, Below}
use Rattle.planner.proofs.Laying.{below}

-- the part of a local array that belongs to the job's own loads, when its front was lent and came back
abbrev part_of : (places front : ℕ) → List ℕ → List ℕ → List ℕ
part_of places front zeros xs = take (places - front) (drop front (xs ++ drop places zeros))

module _
    (job : Job) (passed : Passed job) (places front : ℕ) (wide : places ≡ job.islands * job.cores)
    (before : front + length job.loads ≡ job.islands * job.cores) (zeros : List ℕ) where
  part_end : (xs : List ℕ) → length xs ≡ job.islands * job.cores → part_of places front zeros xs ≡ drop (padding job) xs
  unfolding padding
  part_end xs whole =
      ap (λ (l : List ℕ). take (places - front) l) (drop-append-le front xs (drop places zeros) (omega arith))
      ∙ take_at (drop front xs) (drop places zeros) (places - front) (omega (arith, length-drop front xs))
      ∙ ap (λ (n : ℕ). drop n xs) (omega arith)

  pub shown_plan : (full : List ℕ) → full ≡ plan_of job → part_of places front zeros full ≡ shown job (plan_of job)
  unfolding shown
  shown_plan full is =
      let whole = full_length job.cores 0 job.islands (plan_of job) (plan_uncrossed job passed).full in
      part_end full (ap (λ (l : List ℕ). length l) is ∙ whole) ∙ ap (λ (l : List ℕ). drop (padding job) l) is

  pub shown_islands : (full : List ℕ) → full ≡ plan_of job → Named 0 job.islands (part_of places front zeros full)
  shown_islands full is =
      let placed = plan_placement job passed in
      subst (λ (l : List ℕ). Named 0 job.islands l) (sym (shown_plan full is))
      (λ j h. ((placed.islands j h).0, omega (arith, placed.islands j h)))

  module _
      (steps : List ℕ) (whole : length steps ≡ job.islands * job.cores)
      (looked : Looked job.table.frequencies (padded job) steps) where
    -- the loads stand behind the padding
    behind : Looked job.table.frequencies job.loads (drop (padding job) steps)
    unfolding padded
    behind k h =
        let front : List ℕ = replicate (padding job) 0 in
        let long : length front ≡ padding job = length-replicate (padding job) 0 in
        get_or-drop (padding job) steps k 0
        ∙ looked (padding job + k) (omega (arith, length-append front job.loads))
        ∙ ap (λ (w : ℕ). lowest job.table.frequencies w)
        (ap (λ (n : ℕ). get_or (padded job) (n + k) 0) (sym long) ∙ get_or-append-add front job.loads k 0)

    -- levels are counted from 0, so each is below the number of levels of a table
    low : Below most_levels (drop (padding job) steps)
    low k h =
        let within : padding job + k < length steps = omega (arith, length-drop (padding job) steps) in
        let level = below job passed (padded job) refl steps whole looked (padding job + k) within in
        rw get_or-drop (omega (arith, passed.well.shaped.few_levels))

    pub shown_steps : Looked job.table.frequencies job.loads (part_of places front zeros steps)
    shown_steps =
        subst (λ (l : List ℕ). Looked job.table.frequencies job.loads l) (sym (part_end steps whole)) behind

    pub steps_low : Below most_levels (part_of places front zeros steps)
    steps_low = subst (λ (l : List ℕ). Below most_levels l) (sym (part_end steps whole)) low
