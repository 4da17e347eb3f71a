-- From a job that nothing refuses to what the search asks.
--     padded_carried    some level is fast enough for each load at the positions
--     whole, few        there is a load at each of them, and there are few enough
--     light             and each is within the range of frequencies
--     below             every level that is looked up is one of the table
--     priced            the costs of these levels are what islands are charged, and none is too high
--     lent_front        the part of an array that is lent has a place for each position
--     laid              loads that are copied behind zeros are the padded loads
-- Assumes nothing.
use Prim.Native.Nat.{ℕ, zero, suc, ◌+◌, ◌-◌, ◌*◌, ◌≤◌, ◌<◌, zero-le}
use mathlib.Core.Path.{◌≡◌, sym, ap, ◌∙◌, subst}
use mathlib.Core.List.{List, [], ◌∷◌, ◌++◌}
use native.Mathlib.Nat.{le_of_eq, le_trans, mul-le-mul}
use native.Mathlib.Omega.{arith}
use lib.ListN.{length, get_or, take, drop, replicate, length-replicate}
use lib.Seq.{take_at, length-take-le}
use borrow.Rule.Slice.PartMut.{put_mid}
use Rattle.std.proofs.lemmas.List.{take-replicate}
use Rattle.std.proofs.lemmas.Slice.{take-put_mid}
use Rattle.model.specs.Limits.{most_islands, most_cores, most_places}
use Rattle.model.specs.Level.{level_of, cost, charge}
use Rattle.model.specs.Job.{Job}
use Rattle.model.specs.Placement.{FastEnough}
use Rattle.model.specs.Plan.{padding, padded}
use Rattle.model.specs.Refusals.{last_of}
use Rattle.model.proofs.Levels.{lowest_within, last_fast}
use Rattle.optimum.specs.Loads.{AtMost}
use Rattle.optimum.specs.Passed.{Passed}
use Rattle.optimum.proofs.Padding.{padded_length, padded_within}
use Rattle.planner.specs.Positions.{Looked, Costed, Charged, Below}
use Rattle.planner.specs.Bounds.{most_charge, Light, Cheap}
use Rattle.planner.proofs.Charges.{cost_most}

-- an entry past the end of a list is 0, and one before it is as is known
each_most : (bound : ℕ) (xs : List ℕ) → ((k : ℕ) → k < length xs → get_or xs k 0 ≤ bound) → (k : ℕ) → get_or xs k 0 ≤ bound
each_most bound [] known k = zero-le
each_most bound (x ∷ xs) known zero = known 0 (omega arith)
each_most bound (x ∷ xs) known (suc k) = each_most bound xs (λ j h. known (suc j) (omega arith)) k

most_at : (limit : ℕ) (ws : List ℕ) → AtMost limit ws → (k : ℕ) → get_or ws k 0 ≤ limit
most_at limit [] within k = zero-le
most_at limit (w ∷ ws) within zero = within.0
most_at limit (w ∷ ws) within (suc k) = most_at limit ws within.1 k

module _ (job : Job) (passed : Passed job) where
  few_places : job.islands * job.cores ≤ most_places
  few_places = mul-le-mul {n₂ = most_islands} {m₂ = most_cores} passed.well.sizes.few_islands passed.well.sizes.few_cores

  -- the front of an array of zeros, when it is lent
  pub lent_front : (places : ℕ) → places ≡ job.islands * job.cores → length {A = ℕ} (take places (replicate most_places 0)) ≡ places
  lent_front places wide =
      length-take-le {A = ℕ} places (replicate most_places 0) (omega (arith, few_places, length-replicate {A = ℕ} most_places 0))

  pub padded_carried : (k : ℕ) → FastEnough job.table (get_or (padded job) k 0)
  padded_carried k =
      last_fast job.table (get_or (padded job) k 0) passed.well.shaped.some_level
      (most_at (last_of job.table.frequencies) (padded job)
      (padded_within job (last_of job.table.frequencies) passed.well.ordered passed.slow) k)

  module _ (ws : List ℕ) (laid_out : ws ≡ padded job) where
    pub whole : length ws ≡ job.islands * job.cores
    whole = ap (λ (l : List ℕ). length l) laid_out ∙ padded_length job passed.few

    pub few : length ws ≤ most_places
    few = le_trans (le_of_eq whole) few_places

    carried : (k : ℕ) → FastEnough job.table (get_or ws k 0)
    carried k = subst (λ (l : List ℕ). FastEnough job.table (get_or l k 0)) (sym laid_out) (padded_carried k)

    pub light : Light ws
    light k = let fast = carried k in le_trans fast.enough (passed.well.ranged.frequency_range fast.level fast.within).1

    module _
        (steps : List ℕ) (as_long : length steps ≡ job.islands * job.cores) (looked : Looked job.table.frequencies ws steps) where
      pub below : Below (length job.table.frequencies) steps
      below k h =
          subst (λ (n : ℕ). n < length job.table.frequencies) (sym (looked k (omega (arith, whole))))
          (lowest_within job.table (get_or ws k 0) (carried k))

      -- the costs are stored in the front of an array of zeros that was lent
      pub priced :
          (places : ℕ) (rates : List ℕ)
          → places ≡ job.islands * job.cores
          → length rates ≡ length {A = ℕ} (take places (replicate most_places 0))
          → Costed job.table steps rates
          → let lent : List ℕ = take places (rates ++ drop places (replicate most_places 0)) in
          Cheap ws lent × Charged (charge job.table) ws lent
      unfolding charge level_of
      priced places rates wide as_many costed =
          let zeros : List ℕ = replicate most_places 0 in
          let front : length (take places zeros) ≡ places = lent_front places wide in
          let most = each_most most_charge rates
          (λ k h.
          le_trans (le_of_eq (costed k (omega arith)))
          (cost_most job.table passed.well.shaped passed.well.ranged (get_or steps k 0) (below k (omega arith)))) in
          let lent : take places (rates ++ drop places zeros) ≡ rates = take_at rates (drop places zeros) places (omega arith) in
          subst (λ (l : List ℕ). Cheap ws l × Charged (charge job.table) ws l) (sym lent) (
            record { same_length = omega (arith, whole); cheap = most },
            λ k h. costed k (omega (arith, whole)) ∙ ap (λ (n : ℕ). cost job.table n) (looked k h),
          )

  pub laid :
      (places front : ℕ) (loads : List ℕ)
      → places ≡ job.islands * job.cores
      → front + length job.loads ≡ job.islands * job.cores
      → loads ≡ job.loads
      → take places (put_mid front (places - front) (replicate most_places 0) loads) ≡ padded job
  unfolding padded padding
  laid places front loads wide before same =
      let before : front ≡ padding job = omega arith in
      let copied : length loads ≡ length job.loads = ap (λ (l : List ℕ). length l) same in
      let zeros : length {A = ℕ} (replicate most_places 0) ≡ most_places = length-replicate {A = ℕ} most_places 0 in
      take-put_mid front (places - front) (replicate most_places 0) loads places (omega (arith, passed.few)) (omega (arith, few_places))
      ∙ rw (take-replicate {X = ℕ} front most_places 0 (omega (arith, few_places)), same, before)
