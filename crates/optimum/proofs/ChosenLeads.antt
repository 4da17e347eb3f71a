-- Of the plans that attain the best, the chosen one has the greater members at the first difference.
--     gaps_lead         the chosen members lead those of every plan of the same shape that costs as little
-- Assumes nothing.
use Prim.Native.Nat.{ℕ, suc, ◌+◌, ◌-◌, ◌*◌, ◌≤◌, ◌<◌}
use mathlib.Core.Path.{◌≡◌, refl, sym, ap, ◌∙◌, subst}
use mathlib.Core.Logic.{inr}
use mathlib.Core.List.{List, [], ◌∷◌, ◌++◌}
use native.Mathlib.Nat.{le_trans, le_of_eq, sub-add_cancel, add-mul, mul-le-mul_right}
use native.Mathlib.Decide.{dec_lt, ℕ_discrete}
use native.Mathlib.Omega.{arith}
use lib.ListN.{length, length-append}
use Rattle.model.specs.Plan.{members}
use Rattle.model.specs.Power.{power}
use Rattle.model.specs.TieRule.{Leads}
use Rattle.optimum.specs.Loads.{Sorted, At}
use Rattle.optimum.specs.Best.{least, load_at, gap_cost, best, fill_best}
use Rattle.optimum.specs.Shape.{Run, Gaps}
use Rattle.optimum.specs.Chosen.{chosen, plan_run, best_gap, walk}
use Rattle.optimum.proofs.First.{first_before, least_below}
use Rattle.optimum.proofs.Recurrence.{fill_member}
use Rattle.optimum.proofs.BestSplit.{best_below, fill_below}
use Rattle.optimum.proofs.Shapes.{run_length, gaps_length, gaps_end, run_outside}
use Rattle.optimum.proofs.Members.{members_absent, members_last, members_member}
use Rattle.optimum.proofs.Leading.{leads_same, leads_next, leads_first}
use Rattle.optimum.proofs.RunPower.{charged}
use Rattle.optimum.proofs.Cuts.{Member, member_cut}
use Rattle.optimum.proofs.RunSplit.{run_split, gaps_fill}
use Rattle.optimum.proofs.ChosenRun.{chosen_within, gaps_lowest, gaps_member, gaps_run, run_chosen}

module _ (Q : ℕ) where
  -- the one member of a plan with no other below it
  shaped_lowest :
      (x p base m : ℕ) (gap : List ℕ)
      → Run Q base m gap
      → base + m < x
      → members x p (gap ++ (x ∷ [])) ≡ (p + m * Q) ∷ []
  shaped_lowest x p base m gap run above =
      members_last x p gap
      ∙ ap (λ (l : List ℕ). (p + length gap) ∷ l) (members_absent x p gap (run_outside Q base m gap run x (inr above)))
      ∙ ap (λ (n : ℕ). (p + n) ∷ []) (run_length Q base m gap run)

  shaped_members :
      (x p base s l g m : ℕ) (low gap : List ℕ)
      → Gaps Q x base s l low
      → Run Q (base + l) g gap
      → l + g ≡ m
      → base + m < x
      → members x p (low ++ (gap ++ (x ∷ []))) ≡ (p + (m * Q + suc s)) ∷ members x p low
  shaped_members x p base s l g m low gap gaps run parts above =
      let islands : m * Q ≡ l * Q + g * Q = ap (λ (n : ℕ). n * Q) (sym parts) ∙ add-mul l g Q in
      let places : p + (length low + length gap) ≡ p + (m * Q + suc s) =
      omega (arith, gaps_length Q x base s l low gaps, run_length Q (base + l) g gap run) in
      members_member x p low gap (run_outside Q (base + l) g gap run x (inr (omega arith)))
      ∙ ap (λ (n : ℕ). n ∷ members x p low) places

  -- with more islands below it, the next member stands higher
  next_higher :
      (x p base base' s l l' : ℕ) (low low' : List ℕ)
      → Gaps Q x base s l low
      → Gaps Q x base' s l' low'
      → 0 < Q
      → l' < l
      → Leads (members x p low) (members x p low')
  next_higher x p base base' s l l' low low' gaps gaps' pos more =
      let end = gaps_end Q x base s l low gaps in
      let end' = gaps_end Q x base' s l' low' gaps' in
      let size : length low ≡ length end.0 + 1 = ap (λ (k : List ℕ). length k) end.1 ∙ length-append end.0 (x ∷ []) in
      let size' : length low' ≡ length end'.0 + 1 =
      ap (λ (k : List ℕ). length k) end'.1 ∙ length-append end'.0 (x ∷ []) in
      let islands : suc l' * Q ≤ l * Q = mul-le-mul_right Q more in
      let first : members x p low ≡ (p + length end.0) ∷ members x p end.0 =
      ap (λ (k : List ℕ). members x p k) end.1 ∙ members_last x p end.0 in
      let first' : members x p low' ≡ (p + length end'.0) ∷ members x p end'.0 =
      ap (λ (k : List ℕ). members x p k) end'.1 ∙ members_last x p end'.0 in
      subst (λ (k : List ℕ). Leads (members x p low) k) (sym first')
      (subst (λ (k : List ℕ). Leads k ((p + length end'.0) ∷ members x p end'.0)) (sym first)
      (leads_first (p + length end.0) (p + length end'.0) (members x p end.0) (members x p end'.0)
      (omega (arith, gaps_length Q x base s l low gaps, gaps_length Q x base' s l' low' gaps'))))

module _ (Q own : ℕ) (rate : ℕ → ℕ) (ws : List ℕ) (pos : 0 < Q) where
  -- of the gap below a member: as many islands as are chosen, or more
  module _
      (ρ x i base s l g m : ℕ) (low gap plan us : List ℕ)
      (cut : Member Q own rate ws ρ x i base s l g low gap plan us)
      (gaps : Gaps Q x base s l low)
      (run : Run Q (base + l) g gap)
      (above : base + l < x)
      (parts : l + g ≡ m)
      (cheap : charged own rate ρ x base m plan us ≤ fill_best Q own rate ws ρ i (suc s) m) where
    cost : ℕ → ℕ
    cost = gap_cost Q (best Q own rate ws) (fill_best Q own rate ws ρ i s) i s m

    gap_below : best Q own rate ws (i + (l * Q + suc s)) g ≤ power own rate (base + l) g gap cut.inner
    gap_below =
        best_below Q own rate ws (run_split Q own rate (base + l) g gap cut.inner run cut.gap_length cut.inner_sorted)
        (i + (l * Q + suc s)) cut.inner_at

    low_below : fill_best Q own rate ws ρ i s l ≤ charged own rate ρ x base l low cut.lower
    low_below =
        fill_below Q own rate ws (gaps_fill Q own rate ρ x base s l low cut.lower gaps above cut.low_length cut.lower_sorted)
        i cut.lower_at

    cost_here : cost g ≡ best Q own rate ws (i + (l * Q + suc s)) g + fill_best Q own rate ws ρ i s l
    unfolding cost gap_cost
    cost_here =
        let below : m - g ≡ l = omega arith in
        ap (λ (n : ℕ). best Q own rate ws (i + (n * Q + suc s)) g + fill_best Q own rate ws ρ i s n) below

    cheap_parts : power own rate (base + l) g gap cut.inner + charged own rate ρ x base l low cut.lower ≤ least m cost
    unfolding cost
    cheap_parts =
        let whole : charged own rate ρ x base m plan us
        ≡ ρ * cut.load + (power own rate (base + l) g gap cut.inner + charged own rate ρ x base l low cut.lower) =
        ap (λ (n : ℕ). charged own rate ρ x base n plan us) (sym parts) ∙ cut.cost in
        let load : load_at Q ws i m (suc s) ≡ cut.load = ap (λ (n : ℕ). load_at Q ws i n (suc s)) (sym parts) ∙ cut.load_is in
        omega (arith, ap (λ (n : ℕ). ρ * n) load, fill_member Q ws (best Q own rate ws) ρ i s m)

    -- no fewer islands than are chosen
    gap_no_fewer : best_gap Q own rate ws ρ i s m ≤ g
    unfolding cost chosen least
    gap_no_fewer =
        elim (dec_lt g (best_gap Q own rate ws ρ i s m)) [
          | yes fewer ↦ absurd (omega (arith, first_before m cost g fewer, cost_here, gap_below, low_below, cheap_parts))
          | no enough ↦ omega arith
        ]

    -- and where it has as many, the rest costs as little as it can
    rest_cheap : charged own rate ρ x base l low cut.lower ≤ fill_best Q own rate ws ρ i s l
    rest_cheap = omega (arith, least_below m cost g (omega arith), cost_here, gap_below, cheap_parts)

  -- the highest members are the same; below them the chosen members lead, or the next stands higher already
  with_member :
      (ρ x i base r s l g m p : ℕ) (low gap other : List ℕ)
      → r ≡ suc s
      → l + g ≡ m
      → Gaps Q x base s l low
      → Run Q (base + l) g gap
      → other ≡ low ++ (gap ++ (x ∷ []))
      → base + m < x
      → best_gap Q own rate ws ρ i s m ≤ g
      → Leads (members x p (walk Q own rate ws ρ x i base s l)) (members x p low)
      → Leads (members x p (walk Q own rate ws ρ x i base r m)) (members x p other)
  with_member ρ x i base r s l g m p low gap other more parts gaps run whole above bound below =
      let k = best_gap Q own rate ws ρ i s m in
      let plan : ℕ → ℕ → List ℕ = walk Q own rate ws ρ x i base in
      let within : k ≤ m = chosen_within Q ws (best Q own rate ws) ρ i s m in
      let shape : Gaps Q x base s (m - k) (plan s (m - k)) =
      gaps_run Q own rate ws pos ρ x i base s (m - k) in
      let ours : members x p (plan r m) ≡ (p + (m * Q + suc s)) ∷ members x p (plan s (m - k)) =
      ap (λ (n : ℕ). members x p (plan n m)) more
      ∙ ap (λ (n : List ℕ). members x p n) (gaps_member Q ws (best Q own rate ws) (plan_run Q own rate ws) ρ x i base s m)
      ∙ shaped_members Q x p base s (m - k) k m (plan s (m - k))
      (plan_run Q own rate ws (i + ((m - k) * Q + suc s)) (base + (m - k)) k) shape
      (run_chosen Q own rate ws pos (i + ((m - k) * Q + suc s)) (base + (m - k)) k) (sub-add_cancel within) above in
      let theirs : members x p other ≡ (p + (m * Q + suc s)) ∷ members x p low =
      ap (λ (n : List ℕ). members x p n) whole ∙ shaped_members Q x p base s l g m low gap gaps run parts above in
      let tails : Leads (members x p (plan s (m - k))) (members x p low) =
      elim (ℕ_discrete k g) [
        | yes e ↦
            let same : l ≡ m - k = omega arith in
            subst (λ (n : ℕ). Leads (members x p (plan s n)) (members x p low)) same below
        | no n ↦ next_higher Q x p base base s (m - k) l (plan s (m - k)) low shape gaps pos (omega arith)
      ] in
      subst (λ (n : List ℕ). Leads (members x p (plan r m)) n) (sym theirs)
      (subst (λ (n : List ℕ). Leads n ((p + (m * Q + suc s)) ∷ members x p low)) (sym ours)
      (leads_next (p + (m * Q + suc s)) (p + (m * Q + suc s)) (members x p (plan s (m - k))) (members x p low) refl tails))

  pub gaps_lead :
      (ρ x i base r m p : ℕ) (other us : List ℕ)
      → Gaps Q x base r m other
      → base + m < x
      → length other ≡ length us
      → At ws i us
      → Sorted us
      → charged own rate ρ x base m other us ≤ fill_best Q own rate ws ρ i r m
      → Leads (members x p (walk Q own rate ws ρ x i base r m)) (members x p other)
  gaps_lead ρ x i base r m p other us (Gaps.lowest gap none run whole) above len at sorted cheap =
      let b = best Q own rate ws in
      let ours : walk Q own rate ws ρ x i base r m ≡ plan_run Q own rate ws i base m ++ (x ∷ []) =
      ap (λ (n : ℕ). walk Q own rate ws ρ x i base n m) none
      ∙ gaps_lowest Q ws b (plan_run Q own rate ws) ρ x i base m in
      leads_same _ _
      (ap (λ (k : List ℕ). members x p k) ours
      ∙ shaped_lowest Q x p base m (plan_run Q own rate ws i base m) (run_chosen Q own rate ws pos i base m) above
      ∙ sym (ap (λ (k : List ℕ). members x p k) whole ∙ shaped_lowest Q x p base m gap run above))
  gaps_lead ρ x i base r m p other us (Gaps.member s l g low gap more parts gaps run whole) above len at sorted cheap =
      let cut : Member Q own rate ws ρ x i base s l g low gap other us =
      member_cut Q own rate ws ρ x i base s l g low gap other us whole len (omega arith) gaps run at sorted in
      let cheap' : charged own rate ρ x base m other us ≤ fill_best Q own rate ws ρ i (suc s) m =
      le_trans cheap (le_of_eq (ap (λ (n : ℕ). fill_best Q own rate ws ρ i n m) more)) in
      let bound : best_gap Q own rate ws ρ i s m ≤ g =
      gap_no_fewer ρ x i base s l g m low gap other us cut gaps run (omega arith) (sym parts) cheap' in
      with_member ρ x i base r s l g m p low gap other more (sym parts) gaps run whole above bound
      (gaps_lead ρ x i base s l p low cut.lower gaps (omega arith) cut.low_length cut.lower_at cut.lower_sorted
      (rest_cheap ρ x i base s l g m low gap other us cut gaps run (omega arith) (sym parts) cheap'))
