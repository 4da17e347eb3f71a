-- What is promised, a statement each, proved by citation. First the mathematics, over any charge that never falls; then what the caller
-- of the planner may rely on, over the model's answers.
--     splits_above, split_attains    the recurrence gives the least cost of a split
--     none_cheaper        and no fair assignment draws less, whether it crosses or not
--     theorem_2           the plans without a crossing are the run-shaped ones
--     rule_met, rule_once    the plan function meets the tie rule, and no second plan does
--     placements_exist    when a placement exists
--     refused_exactly     a job otherwise well formed is refused for count or speed exactly when none does
--     answered_once       no second answer fits a job
--     answer_always       there is one, to every job with every pair of buffers
--     demand_1            a refusal has its stated cause and no other, and keeps everything
--     demand_2            the plan of an accepted answer has the reported total, no placement's is lower, it has no crossing, is numbered by
--                         highest position, has island V last, and is the one that the tie rule names
--     demand_3            what its total and its plan are worth with exact fractions as costs
--     no_work             where all loads are 0, both its total and its plan's exact power are 0
--     levels_rise         its level bytes never fall from one island to the next
--     no_loads            an empty list of loads is accepted: total 0, all V levels 0
--     board_cases, board_cases_once    the board cases to prove: each row is the answer to its job, and the only one
-- Assumes nothing.
use Prim.Native.Nat.{ℕ, ◌+◌, ◌*◌, ◌≤◌, ◌<◌}
use mathlib.Core.Path.{◌≡◌}
use mathlib.Core.Logic.{◌⊎◌, ◌↔◌}
use mathlib.Core.List.{List, [], ◌++◌}
use lib.ListN.{length, take, drop, replicate}
use Rattle.model.specs.Job.{Job}
use Rattle.model.specs.Power.{held, drawn, workload}
use Rattle.model.specs.Exact.{exact}
use Rattle.model.specs.Placement.{Placement}
use Rattle.model.specs.TieRule.{Uncrossed, ByRule}
use Rattle.model.specs.Refusals.{Ordered, last_of, Tried, conditions}
use Rattle.model.specs.Answer.{Answered}
use Rattle.model.specs.Cases.{proved}
use Rattle.optimum.specs.Loads.{AtMost, Sorted, NeverFalls, At}
use Rattle.optimum.specs.Shape.{Run}
use Rattle.optimum.specs.Best.{best}
use Rattle.optimum.specs.Split.{Split}
use Rattle.optimum.specs.Chosen.{plan_run}
use Rattle.optimum.specs.Fair.{Fair, over}
use Rattle.optimum.specs.Passed.{WellFormed, returned}
use Rattle.optimum.specs.Demands.{Demand1, Demand2, Demand3, SameAnswer}
use Rattle.optimum.specs.CaseClaim.{Claimed, Only, Each}
use Rattle.optimum.proofs.BestSplit.{best_below}
use Rattle.optimum.proofs.FullBound.{fair_bound}
use Rattle.optimum.proofs.RunUncrossed.{run_uncrossed}
use Rattle.optimum.proofs.UncrossedRun.{uncrossed_run}
use Rattle.optimum.proofs.RuleOne.{rule_one}
use Rattle.optimum.proofs.BestAttained.{best_attained}
use Rattle.optimum.proofs.ChosenRule.{chosen_rule}
use Rattle.optimum.proofs.Passing.{placement_exists, count_or_speed}
use Rattle.optimum.proofs.Answering.{answer_once}
use Rattle.optimum.proofs.DemandOne.{answer_demand_1, answer_found}
use Rattle.optimum.proofs.BoardCases.{cases_answered, cases_only}
use Rattle.optimum.proofs.Idle.{idle_answer, empty_idle, empty_passes}
use Rattle.optimum.proofs.LevelsRise.{levels_ordered}
use Rattle.optimum.proofs.Returned.{returned_demand_2, returned_demand_3, returned_idle}

-- Q cores to an island, the island power, a cost by heaviest load, and the loads at all positions
module _ (Q own : ℕ) (rate : ℕ → ℕ) (ws : List ℕ) where
  -- the recurrence gives the least cost of a split: no split costs less, and one costs as much
  pub splits_above : (i v c : ℕ) (us : List ℕ) → Split Q own rate us v c → At ws i us → best Q own rate ws i v ≤ c
  splits_above i v c us split at = best_below Q own rate ws split i at

  pub split_attains :
      0 < Q → (i v : ℕ) (us : List ℕ) → At ws i us → length us ≡ v * Q → Split Q own rate us v (best Q own rate ws i v)
  split_attains = best_attained Q own rate ws

module _ (Q own : ℕ) (rate : ℕ → ℕ) (ws : List ℕ) (some_core : 0 < Q) where
  -- "among equals the tie rule names one": two plans by the rule, for one run, are equal
  pub rule_once :
      (before base v : ℕ) (plan other : List ℕ)
      → ByRule Q own rate ws before base v plan
      → ByRule Q own rate ws before base v other
      → plan ≡ other
  rule_once = rule_one Q own rate ws some_core

  module _ (limit : ℕ) (rises : NeverFalls rate limit) where
    -- "No placement […] has a lower total", said of assignments that fill every island: they may cross in any way
    pub none_cheaper :
        (i v : ℕ) (zs plan us : List ℕ)
        → length zs ≡ v
        → Fair Q zs plan
        → length plan ≡ length us
        → Sorted us
        → AtMost limit us
        → At ws i us
        → best Q own rate ws i v ≤ over (λ z. drawn own rate (held z plan us)) zs
    none_cheaper = fair_bound Q own rate ws limit some_core rises

    -- "Of the least-cost plans for the run, take the one whose members are greater at the first difference." The plan function does so.
    pub rule_met :
        Sorted ws
        → AtMost limit ws
        → (before base v : ℕ)
        → before + v * Q ≤ length ws
        → ByRule Q own rate ws before base v (plan_run Q own rate ws before base v)
    rule_met = chosen_rule Q own rate ws limit some_core rises

-- "Theorem 2 of source document 004 describes the same plans."
pub theorem_2 : (Q base v : ℕ) (plan : List ℕ) → 0 < Q → Run Q base v plan ↔ Uncrossed Q base v plan
theorem_2 Q base v plan some_core = (run_uncrossed Q base v plan, uncrossed_run Q base v plan some_core)

module _ (job : Job) where
  -- "Refusals 6 and 8 are the two that say no placement exists."
  pub placements_exist :
      WellFormed job
      → ((length job.loads ≤ job.islands * job.cores) × (last_of job.loads ≤ last_of job.table.frequencies))
      ↔ ((plan : List ℕ) × Placement job plan)
  placements_exist = placement_exists job

  -- "A job otherwise well formed is refused for count or speed exactly when no placement exists."
  pub refused_exactly :
      (plan_length level_length number : ℕ)
      → WellFormed job
      → Tried (conditions job plan_length level_length) number
      → ((number ≡ 6) ⊎ (number ≡ 8)) ↔ (¬ ((plan : List ℕ) × Placement job plan))
  refused_exactly = count_or_speed job

  -- the two lent buffers as they came
  module _ (plan₀ levels₀ : List ℕ) where
    -- "every input has one result and one content of the lent buffers afterwards, in refusals too"
    pub answered_once :
        (n n' reported reported' : ℕ) (planned leveled planned' leveled' : List ℕ)
        → Answered job plan₀ levels₀ n reported planned leveled
        → Answered job plan₀ levels₀ n' reported' planned' leveled'
        → SameAnswer n reported planned leveled n' reported' planned' leveled'
    answered_once = answer_once job plan₀ levels₀

    -- "Every list, table and size gets an answer"
    pub answer_always :
        (n : ℕ) × (reported : ℕ) × (planned : List ℕ) × (leveled : List ℕ) × Answered job plan₀ levels₀ n reported planned leveled
    answer_always = answer_found job plan₀ levels₀

    -- "Nine refusals, each for its stated cause and no other", and 0 for a job that passes: specs/Demands.antt
    pub demand_1 :
        (n reported : ℕ) (planned leveled : List ℕ)
        → Answered job plan₀ levels₀ n reported planned leveled
        → Demand1 job plan₀ levels₀ n reported planned leveled
    demand_1 = answer_demand_1 job plan₀ levels₀

    module _ (reported : ℕ) (planned leveled : List ℕ) (answer : Answered job plan₀ levels₀ 0 reported planned leveled) where
      -- what demands 2 and 3 say of the reported total and the returned plan
      pub demand_2 : Demand2 job reported (returned job planned)
      demand_2 = returned_demand_2 job plan₀ levels₀ reported planned leveled answer

      pub demand_3 : Demand3 job reported (returned job planned)
      demand_3 = returned_demand_3 job plan₀ levels₀ reported planned leveled answer

      -- "or equal when W is 0": where all loads are 0 both the total and the exact power are 0
      pub no_work : workload job ≡ 0 → (reported ≡ 0) × (exact job (returned job planned) ≡ 0)
      no_work = returned_idle job plan₀ levels₀ reported planned leveled answer

      -- padding stands in front and islands are numbered by their highest position, so the level never falls from one island to the
      -- next: idle islands have the low numbers
      pub levels_rise : Ordered (take job.islands leveled)
      levels_rise = levels_ordered job plan₀ levels₀ reported planned leveled answer

-- "An empty list of loads is accepted: total 0, all V levels 0."
pub no_loads :
    (job : Job) (plan₀ levels₀ : List ℕ)
    → job.loads ≡ []
    → WellFormed job
    → job.islands ≤ length levels₀
    → Tried (conditions job (length plan₀) (length levels₀)) 0
    × ((reported : ℕ) (planned leveled : List ℕ)
    → Answered job plan₀ levels₀ 0 reported planned leveled
    → (reported ≡ 0) × (leveled ≡ replicate job.islands 0 ++ drop job.islands levels₀))
no_loads job plan₀ levels₀ none well room =
    (empty_passes job none (length plan₀) (length levels₀) well room, idle_answer job (empty_idle job none) plan₀ levels₀)

-- "Cases 1 to 12 are one list with one claim, proved from the definitions"
pub board_cases : Each Claimed proved
board_cases = cases_answered

pub board_cases_once : Each Only proved
board_cases_once = cases_only
