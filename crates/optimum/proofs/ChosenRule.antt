-- The plan function meets the tie rule as the model states it.
--     chosen_power, full_above    `run_power` and `best_bound` over the loads as the model hands them on: all from the run's first
--     chosen_least    so no plan without a crossing does
--     chosen_taken    of those that cost as little, its top island's members lead
--     chosen_rule     and every gap is settled by the same rule by itself
-- Assumes nothing.
use Prim.Native.Nat.{ℕ, zero, suc, ◌+◌, ◌-◌, ◌*◌, ◌/◌, ◌≤◌, ◌<◌}
use mathlib.Core.Path.{◌≡◌, refl, sym, ap, ◌∙◌, subst}
use mathlib.Core.Logic.{inl, inr}
use mathlib.Core.List.{List, [], ◌∷◌, ◌++◌}
use native.Mathlib.Nat.{le_refl, le_trans, le_of_eq, zero-lt-suc, not-suc-le-zero, sub-le}
use native.Mathlib.Nat.{sub-add_cancel, add-mul, add-zero, mul-div_cancel, suc_inj}
use native.Mathlib.Omega.{arith}
use lib.ListN.{length, take, drop, take-append-drop, length-drop}
use lib.Seq.{length-take-le}
use Rattle.model.specs.Plan.{Full, count, members}
use Rattle.model.specs.Power.{held, heaviest, power}
use Rattle.model.specs.TieRule.{Leads, Gap, Least, Taken, ByRule}
use Rattle.optimum.specs.Loads.{AtMost, Sorted, NeverFalls, At}
use Rattle.optimum.specs.Best.{top_load, best, fill_best}
use Rattle.optimum.specs.Shape.{Run, Gaps}
use Rattle.optimum.specs.Chosen.{plan_run, best_gap, walk}
use Rattle.optimum.proofs.Recurrence.{best_is}
use Rattle.optimum.proofs.BestSplit.{at_top}
use Rattle.optimum.proofs.NamedPlans.{full_length}
use Rattle.optimum.proofs.SortedLoads.{sorted_front, sorted_back, most_front, most_back}
use Rattle.optimum.proofs.Shapes.{run_length, gaps_length, gaps_end, gaps_top, run_outside}
use Rattle.optimum.proofs.RunUncrossed.{run_uncrossed}
use Rattle.optimum.proofs.UncrossedRun.{uncrossed_run}
use Rattle.optimum.proofs.GapParts.{gap_lowest, gap_member}
use Rattle.optimum.proofs.FullBound.{power_front}
use Rattle.optimum.proofs.RunBound.{best_bound}
use Rattle.optimum.proofs.RunPower.{charged, power_top}
use Rattle.optimum.proofs.RunSplit.{gaps_heaviest}
use Rattle.optimum.proofs.ChosenRun.{chosen_within, gaps_lowest, gaps_member, gaps_run, plan_none, plan_is, run_chosen}
use Rattle.optimum.proofs.ChosenPower.{run_power}
use Rattle.optimum.proofs.ChosenLeads.{gaps_lead}

-- sorted loads, none above the limit, up to which the charge never falls
module _
    (Q own : ℕ) (rate : ℕ → ℕ) (ws : List ℕ) (limit : ℕ) (pos : 0 < Q) (rises : NeverFalls rate limit) (sorted : Sorted ws)
    (most : AtMost limit ws) where
  record RunLoads (i v : ℕ) : Type 0 where
    us : List ℕ
    at : At ws i us
    size : length us ≡ v * Q
    us_sorted : Sorted us
    us_most : AtMost limit us

  loads_at : (i v : ℕ) → i + v * Q ≤ length ws → RunLoads i v
  loads_at i v fits =
      let rest = drop i ws in
      let parts : take i ws ++ rest ≡ ws = take-append-drop i ws in
      let parts' : take (v * Q) rest ++ drop (v * Q) rest ≡ rest = take-append-drop (v * Q) rest in
      let rest_sorted : Sorted rest = sorted_back (take i ws) rest (subst (λ (l : List ℕ). Sorted l) (sym parts) sorted) in
      let rest_most : AtMost limit rest = most_back limit (take i ws) rest (subst (λ (l : List ℕ). AtMost limit l) (sym parts) most) in
      record {
        us = take (v * Q) rest;
        at = (drop (v * Q) rest, sym parts');
        size = length-take-le (v * Q) rest (omega (arith, length-drop i ws));
        us_sorted = sorted_front (take (v * Q) rest) (drop (v * Q) rest) (subst (λ (l : List ℕ). Sorted l) (sym parts') rest_sorted);
        us_most = most_front limit (take (v * Q) rest) (drop (v * Q) rest) (subst (λ (l : List ℕ). AtMost limit l) (sym parts') rest_most);
      }

  -- what stands behind the run's loads draws nothing
  power_at :
      (i base v : ℕ) (plan us : List ℕ)
      → At ws i us
      → length plan ≡ length us
      → power own rate base v plan (drop i ws) ≡ power own rate base v plan us
  power_at i base v plan us at len =
      ap (λ (l : List ℕ). power own rate base v plan l) at.1 ∙ power_front own rate base v plan us at.0 len

  pub chosen_power :
      (i base v : ℕ)
      → i + v * Q ≤ length ws
      → power own rate base v (plan_run Q own rate ws i base v) (drop i ws) ≡ best Q own rate ws i v
  chosen_power i base v fits =
      let loads = loads_at i v fits in
      let plan = plan_run Q own rate ws i base v in
      power_at i base v plan loads.us loads.at
      (run_length Q base v plan (run_chosen Q own rate ws pos i base v) ∙ sym loads.size)
      ∙ run_power Q own rate ws pos i base v loads.us loads.at loads.size loads.us_sorted

  -- no full plan of a run costs less than its best, crossing ones too
  pub full_above :
      (i base v : ℕ) (plan : List ℕ)
      → i + v * Q ≤ length ws
      → Full Q base v plan
      → best Q own rate ws i v ≤ power own rate base v plan (drop i ws)
  full_above i base v plan fits full =
      let loads = loads_at i v fits in
      le_trans
      (best_bound Q own rate ws limit pos rises i base v plan loads.us full loads.size loads.us_sorted loads.us_most
      loads.at)
      (le_of_eq (sym (power_at i base v plan loads.us loads.at (full_length Q base v plan full ∙ sym loads.size))))

  pub chosen_least :
      (i base v : ℕ) → i + v * Q ≤ length ws → Least Q own rate ws i base v (plan_run Q own rate ws i base v)
  chosen_least i base v fits =
      record {
        uncrossed = run_uncrossed Q base v (plan_run Q own rate ws i base v) (run_chosen Q own rate ws pos i base v);
        least = λ other uncrossed.
            le_trans (le_of_eq (chosen_power i base v fits)) (full_above i base v other fits uncrossed.full);
      }

  -- a plan of the same shape that costs no more
  shaped_leads :
      (i base m : ℕ) (other : List ℕ)
      → i + suc m * Q ≤ length ws
      → Gaps Q (base + suc m) base (Q - 1) m other
      → power own rate base (suc m) other (drop i ws) ≤ best Q own rate ws i (suc m)
      → Leads (members (base + suc m) 1 (plan_run Q own rate ws i base (suc m))) (members (base + suc m) 1 other)
  shaped_leads i base m other fits gaps cheap =
      let x = base + suc m in
      let t = top_load Q ws i m in
      let loads = loads_at i (suc m) fits in
      let places : length loads.us ≡ m * Q + suc (Q - 1) = omega (arith, loads.size) in
      let len : length other ≡ length loads.us = gaps_length Q x base (Q - 1) m other gaps ∙ sym places in
      let one_less : suc (Q - 1) ≡ Q = omega arith in
      let heavy : heaviest (held x other loads.us) ≡ t =
      gaps_heaviest Q own rate x base (Q - 1) m other loads.us gaps len loads.us_sorted
      ∙ at_top Q ws i m (Q - 1) loads.us loads.at places one_less in
      let charges : charged own rate (rate t) x base m other loads.us ≤ fill_best Q own rate ws (rate t) i (Q - 1) m =
      omega (
        arith,
        power_at i base (suc m) other loads.us loads.at len,
        power_top own rate base (suc m) m t other loads.us refl heavy,
        best_is Q own rate ws i m,
      ) in
      subst (λ (l : List ℕ). Leads (members x 1 l) (members x 1 other)) (sym (plan_is Q own rate ws i base m))
      (gaps_lead Q own rate ws pos (rate t) x i base (Q - 1) m 1 other loads.us gaps (omega arith) len loads.at
      loads.us_sorted charges)

  chosen_leads :
      (i base m : ℕ) (other : List ℕ)
      → i + suc m * Q ≤ length ws
      → Least Q own rate ws i base (suc m) other
      → Leads (members (base + suc m) 1 (plan_run Q own rate ws i base (suc m))) (members (base + suc m) 1 other)
  chosen_leads i base m other fits least = by_shape (uncrossed_run Q base (suc m) other pos least.uncrossed)
    where
      cheap : power own rate base (suc m) other (drop i ws) ≤ best Q own rate ws i (suc m)
      cheap =
          le_trans (least.least (plan_run Q own rate ws i base (suc m)) (chosen_least i base (suc m) fits).uncrossed)
          (le_of_eq (chosen_power i base (suc m) fits))

      by_shape :
          Run Q base (suc m) other
          → Leads (members (base + suc m) 1 (plan_run Q own rate ws i base (suc m))) (members (base + suc m) 1 other)
      by_shape (Run.empty none whole) = absurd (omega arith)
      by_shape (Run.top r n top more gaps) =
          let below : r ≡ Q - 1 = omega arith in
          shaped_leads i base m other fits
          (subst (λ (k : ℕ). Gaps Q (base + suc m) base k m other) below
          (subst (λ (k : ℕ). Gaps Q (base + suc m) base r k other) (sym (suc_inj more)) gaps))
          cheap

  pub chosen_taken :
      (i base m : ℕ)
      → i + suc m * Q ≤ length ws
      → Taken Q own rate ws i base (suc m) (plan_run Q own rate ws i base (suc m))
  chosen_taken i base m fits =
      record {
        least = chosen_least i base (suc m) fits;
        leads = λ other least. chosen_leads i base m other fits least;
      }

  -- a gap c behind b, where n members and l islands stand in b: the numbers that the rule gives it are its own
  gap_numbers :
      (x i base l g n : ℕ) (b c gap : List ℕ)
      → c ≡ gap
      → length gap ≡ g * Q
      → length b ≡ l * Q + n
      → count x b ≡ n
      → ByRule Q own rate ws (i + (l * Q + n)) (base + l) g gap
      → ByRule Q own rate ws (i + length b) (base + (length b - count x b) / Q) (length c / Q) c
  gap_numbers x i base l g n b c gap same size places members_below rule =
      let islands : g ≡ length c / Q =
      sym (ap (λ (k : List ℕ). length k / Q) same ∙ ap (λ (k : ℕ). k / Q) size ∙ mul-div_cancel g pos) in
      let only_gaps : l * Q ≡ length b - count x b = omega arith in
      let below : l ≡ (length b - count x b) / Q = sym (mul-div_cancel l pos) ∙ ap (λ (k : ℕ). k / Q) only_gaps in
      subst (λ (k : ℕ). ByRule Q own rate ws (i + k) (base + (length b - count x b) / Q) (length c / Q) c) (sym places)
      (subst (λ (k : ℕ). ByRule Q own rate ws (i + (l * Q + n)) (base + k) (length c / Q) c) below
      (subst (λ (k : ℕ). ByRule Q own rate ws (i + (l * Q + n)) (base + l) k c) islands
      (subst (λ (k : List ℕ). ByRule Q own rate ws (i + (l * Q + n)) (base + l) g k) (sym same) rule)))

  -- the gaps of the chosen plan are chosen plans
  gaps_rule :
      (ρ x i base r m : ℕ) (b c d : List ℕ)
      → ((j k g : ℕ) → g ≤ m → j + g * Q ≤ length ws → ByRule Q own rate ws j k g (plan_run Q own rate ws j k g))
      → base + m < x
      → i + (m * Q + suc r) ≤ length ws
      → Gap x (walk Q own rate ws ρ x i base r m) b c d
      → ByRule Q own rate ws (i + length b) (base + (length b - count x b) / Q) (length c / Q) c
  unfolding count
  gaps_rule ρ x i base zero m b c d inner above fits gap =
      let start = i + (0 * Q + 0) in
      let here : i ≡ start = omega arith in
      let p = plan_run Q own rate ws i base m in
      let run : Run Q base m p = run_chosen Q own rate ws pos i base m in
      let found =
      gap_lowest x p b c d (run_outside Q base m p run x (inr above))
      (subst (λ (l : List ℕ). Gap x l b c d) (gaps_lowest Q ws (best Q own rate ws) (plan_run Q own rate ws) ρ x i base m) gap) in
      gap_numbers x i base 0 m 0 b c p found.1 (run_length Q base m p run)
      (ap (λ (l : List ℕ). length l) found.0 ∙ omega arith) (ap (λ (l : List ℕ). count x l) found.0)
      (subst (λ (n : ℕ). ByRule Q own rate ws n (base + 0) m p) here
      (subst (λ (n : ℕ). ByRule Q own rate ws i n m p) (sym (add-zero base)) (inner i base m (le_refl m) (omega arith))))
  gaps_rule ρ x i base (suc r) m b c d inner above fits gap =
      step (best_gap Q own rate ws ρ i r m) (m - best_gap Q own rate ws ρ i r m) within (sub-add_cancel within)
      (subst (λ (l : List ℕ). Gap x l b c d) (gaps_member Q ws (best Q own rate ws) (plan_run Q own rate ws) ρ x i base r m) gap)
      (λ d'. gaps_rule ρ x i base r (m - best_gap Q own rate ws ρ i r m) b c d'
      (λ j k g bound. inner j k g (le_trans bound (sub-le m (best_gap Q own rate ws ρ i r m)))))
    where
      within : best_gap Q own rate ws ρ i r m ≤ m
      within = chosen_within Q ws (best Q own rate ws) ρ i r m

      step :
          (g l : ℕ)
          → g ≤ m
          → l + g ≡ m
          → Gap x (walk Q own rate ws ρ x i base r l ++ (plan_run Q own rate ws (i + (l * Q + suc r)) (base + l) g ++ (x ∷ []))) b c d
          → ((d' : List ℕ)
          → base + l < x
          → i + (l * Q + suc r) ≤ length ws
          → Gap x (walk Q own rate ws ρ x i base r l) b c d'
          → ByRule Q own rate ws (i + length b) (base + (length b - count x b) / Q) (length c / Q) c)
          → ByRule Q own rate ws (i + length b) (base + (length b - count x b) / Q) (length c / Q) c
      step g l bound parts here below =
          let islands : m * Q ≡ l * Q + g * Q = ap (λ (n : ℕ). n * Q) (sym parts) ∙ add-mul l g Q in
          let low = walk Q own rate ws ρ x i base r l in
          let p = plan_run Q own rate ws (i + (l * Q + suc r)) (base + l) g in
          let run : Run Q (base + l) g p = run_chosen Q own rate ws pos (i + (l * Q + suc r)) (base + l) g in
          let shape : Gaps Q x base r l low =
          gaps_run Q own rate ws pos ρ x i base r l in
          elim (gap_member x low p b c d (run_outside Q (base + l) g p run x (inr (omega arith)))
          (gaps_end Q x base r l low shape) here) [
            | inl found ↦
                gap_numbers x i base l g (suc r) b c p found.1 (run_length Q (base + l) g p run)
                (ap (λ (k : List ℕ). length k) found.0 ∙ gaps_length Q x base r l low shape)
                (ap (λ (k : List ℕ). count x k) found.0 ∙ gaps_top Q x base r l low shape (omega arith))
                (inner (i + (l * Q + suc r)) (base + l) g bound (omega arith))
            | inr found ↦ below found.0 (omega arith) (omega arith) found.1
          ]

  within_rule :
      (n i base v : ℕ) → v ≤ n → i + v * Q ≤ length ws → ByRule Q own rate ws i base v (plan_run Q own rate ws i base v)
  within_rule zero i base zero bound fits = ByRule.empty refl (plan_none Q own rate ws i base)
  within_rule (suc n) i base zero bound fits = ByRule.empty refl (plan_none Q own rate ws i base)
  within_rule zero i base (suc m) bound fits = absurd (not-suc-le-zero bound)
  within_rule (suc n) i base (suc m) bound fits =
      ByRule.settled (zero-lt-suc m) (chosen_taken i base m fits)
      (λ b c d gap.
      gaps_rule (rate (top_load Q ws i m)) (base + suc m) i base (Q - 1) m b c d
      (λ j k g less inside. within_rule n j k g (omega arith) inside) (omega arith) (omega arith)
      (subst (λ (l : List ℕ). Gap (base + suc m) l b c d) (plan_is Q own rate ws i base m) gap))

  pub chosen_rule : (i base v : ℕ) → i + v * Q ≤ length ws → ByRule Q own rate ws i base v (plan_run Q own rate ws i base v)
  chosen_rule i base v fits = within_rule v i base v (le_refl v) fits
