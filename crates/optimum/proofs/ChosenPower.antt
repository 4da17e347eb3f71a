-- The plan function attains the best.
--     run_power       the power of a run's plan is its best
-- Assumes nothing.
use Prim.Native.Nat.{ℕ, zero, suc, ◌+◌, ◌-◌, ◌*◌, ◌≤◌, ◌<◌}
use mathlib.Core.Path.{◌≡◌, refl, sym, ap, ◌∙◌, subst}
use mathlib.Core.List.{List, [], ◌∷◌, ◌++◌}
use native.Mathlib.Nat.{le_refl, le_trans, not-suc-le-zero, sub-le, sub-add_cancel, add-mul}
use native.Mathlib.Omega.{arith}
use lib.ListN.{length, length-append}
use Rattle.model.specs.Power.{each, held, heaviest, sum, power}
use Rattle.optimum.specs.Loads.{Sorted, At}
use Rattle.optimum.specs.Best.{itself, load_at, top_load, best, fill_best}
use Rattle.optimum.specs.Shape.{Run, Gaps}
use Rattle.optimum.specs.Chosen.{plan_run, best_gap, walk}
use Rattle.optimum.proofs.Recurrence.{fill_lowest, best_none, best_is}
use Rattle.optimum.proofs.BestAttained.{fill_chosen}
use Rattle.optimum.proofs.BestSplit.{at_top}
use Rattle.optimum.proofs.Shapes.{run_length, gaps_length}
use Rattle.optimum.proofs.RunPower.{charged, power_top}
use Rattle.optimum.proofs.Cuts.{Member, lowest_cut, member_cut}
use Rattle.optimum.proofs.RunSplit.{gaps_heaviest}
use Rattle.optimum.proofs.ChosenRun.{chosen_within, gaps_lowest, gaps_member, gaps_run, plan_is, run_chosen}

module _ (Q own : ℕ) (rate : ℕ → ℕ) (ws : List ℕ) (pos : 0 < Q) where
  -- the plan of a run of v islands, over any numbers, draws the run's best
  abbrev Attains : ℕ → Type 0
  Attains v =
      (i base : ℕ) (us : List ℕ)
      → At ws i us
      → length us ≡ v * Q
      → Sorted us
      → power own rate base v (plan_run Q own rate ws i base v) us ≡ best Q own rate ws i v

  -- a member with its gap and all below it, where the gap and what is below it attain their bests
  member_attains :
      (ρ x i base r l g : ℕ) (low gap plan us : List ℕ)
      → (cut : Member Q own rate ws ρ x i base r l g low gap plan us)
      → power own rate (base + l) g gap cut.inner ≡ best Q own rate ws (i + (l * Q + suc r)) g
      → charged own rate ρ x base l low cut.lower ≡ fill_best Q own rate ws ρ i r l
      → charged own rate ρ x base (l + g) plan us
      ≡ ρ * load_at Q ws i (l + g) (suc r)
      + (best Q own rate ws (i + (l * Q + suc r)) g + fill_best Q own rate ws ρ i r l)
  member_attains ρ x i base r l g low gap plan us cut upper lower = omega (arith, cut.cost, ap (λ (n : ℕ). ρ * n) cut.load_is)

  gaps_power :
      (ρ x i base r m : ℕ) (us : List ℕ)
      → ((g : ℕ) → g ≤ m → Attains g)
      → base + m < x
      → At ws i us
      → length us ≡ m * Q + suc r
      → Sorted us
      → charged own rate ρ x base m (walk Q own rate ws ρ x i base r m) us
      ≡ fill_best Q own rate ws ρ i r m
  gaps_power ρ x i base zero m us inner above at len sorted =
      let p = plan_run Q own rate ws i base m in
      let shape : Run Q base m p = run_chosen Q own rate ws pos i base m in
      let places : length (p ++ (x ∷ [])) ≡ length us =
      omega (arith, length-append p (x ∷ []), run_length Q base m p shape) in
      let cut = lowest_cut Q own rate ws ρ x i base m p (p ++ (x ∷ [])) us refl places above shape at sorted in
      let draws : charged own rate ρ x base m (p ++ (x ∷ [])) us ≡ fill_best Q own rate ws ρ i 0 m =
      omega (
        arith,
        cut.cost,
        ap (λ (n : ℕ). ρ * n) cut.load_is,
        fill_lowest Q ws (best Q own rate ws) ρ i m,
        inner m (le_refl m) i base cut.inner cut.inner_at cut.inner_length cut.inner_sorted,
      ) in
      ap (λ (l : List ℕ). charged own rate ρ x base m l us)
      (gaps_lowest Q ws (best Q own rate ws) (plan_run Q own rate ws) ρ x i base m)
      ∙ draws
  gaps_power ρ x i base (suc r) m us inner above at len sorted =
      ap (λ (k : List ℕ). charged own rate ρ x base m k us)
      (gaps_member Q ws (best Q own rate ws) (plan_run Q own rate ws) ρ x i base r m)
      ∙ step (best_gap Q own rate ws ρ i r m) (m - best_gap Q own rate ws ρ i r m) within (sub-add_cancel within)
      (λ vs. gaps_power ρ x i base r (m - best_gap Q own rate ws ρ i r m) vs
      (λ h bound. inner h (le_trans bound (sub-le m (best_gap Q own rate ws ρ i r m)))))
      ∙ sym (fill_chosen Q own rate ws ρ i r m)
    where
      within : best_gap Q own rate ws ρ i r m ≤ m
      within = chosen_within Q ws (best Q own rate ws) ρ i r m

      step :
          (g l : ℕ)
          → g ≤ m
          → l + g ≡ m
          → ((vs : List ℕ)
          → base + l < x
          → At ws i vs
          → length vs ≡ l * Q + suc r
          → Sorted vs
          → charged own rate ρ x base l (walk Q own rate ws ρ x i base r l) vs ≡ fill_best Q own rate ws ρ i r l)
          → charged own rate ρ x base m
          (walk Q own rate ws ρ x i base r l ++ (plan_run Q own rate ws (i + (l * Q + suc r)) (base + l) g ++ (x ∷ []))) us
          ≡ ρ * load_at Q ws i m (suc r)
          + (best Q own rate ws (i + (l * Q + suc r)) g + fill_best Q own rate ws ρ i r l)
      step g l bound parts below =
          let islands : m * Q ≡ l * Q + g * Q = ap (λ (n : ℕ). n * Q) (sym parts) ∙ add-mul l g Q in
          let low = walk Q own rate ws ρ x i base r l in
          let gap = plan_run Q own rate ws (i + (l * Q + suc r)) (base + l) g in
          let low_shape : Gaps Q x base r l low =
          gaps_run Q own rate ws pos ρ x i base r l in
          let gap_shape : Run Q (base + l) g gap = run_chosen Q own rate ws pos (i + (l * Q + suc r)) (base + l) g in
          let plan = low ++ (gap ++ (x ∷ [])) in
          let places : length plan ≡ length us =
          omega (
            arith,
            length-append low (gap ++ (x ∷ [])),
            length-append gap (x ∷ []),
            gaps_length Q x base r l low low_shape,
            run_length Q (base + l) g gap gap_shape,
          ) in
          let cut : Member Q own rate ws ρ x i base r l g low gap plan us =
          member_cut Q own rate ws ρ x i base r l g low gap plan us refl places (omega arith) low_shape gap_shape at sorted in
          subst
          (λ (n : ℕ).
          charged own rate ρ x base n plan us
          ≡ ρ * load_at Q ws i n (suc r)
          + (best Q own rate ws (i + (l * Q + suc r)) g + fill_best Q own rate ws ρ i r l)) parts
          (member_attains ρ x i base r l g low gap plan us cut
          (inner g bound (i + (l * Q + suc r)) (base + l) cut.inner cut.inner_at cut.inner_length cut.inner_sorted)
          (below cut.lower (omega arith) cut.lower_at cut.lower_length cut.lower_sorted))

  within_power : (n v : ℕ) → v ≤ n → Attains v
  unfolding power each sum
  within_power zero zero bound i base us at len sorted = sym (best_none Q own rate ws i)
  within_power (suc n) zero bound i base us at len sorted = sym (best_none Q own rate ws i)
  within_power zero (suc m) bound i base us at len sorted = absurd (not-suc-le-zero bound)
  within_power (suc n) (suc m) bound i base us at len sorted =
      let b = best Q own rate ws in
      let t = top_load Q ws i m in
      let x = base + suc m in
      let plan = walk Q own rate ws (rate t) x i base (Q - 1) m in
      let shape : Gaps Q x base (Q - 1) m plan =
      gaps_run Q own rate ws pos (rate t) x i base (Q - 1) m in
      let members : suc (Q - 1) ≡ Q = omega arith in
      let places : length us ≡ m * Q + suc (Q - 1) = omega arith in
      let heavy : heaviest (held x plan us) ≡ t =
      gaps_heaviest Q own rate x base (Q - 1) m plan us shape (gaps_length Q x base (Q - 1) m plan shape ∙ sym places) sorted
      ∙ at_top Q ws i m (Q - 1) us at places members in
      ap (λ (l : List ℕ). power own rate base (suc m) l us) (plan_is Q own rate ws i base m)
      ∙ power_top own rate base (suc m) m t plan us refl heavy
      ∙ ap (λ (n : ℕ). itself own t + n)
      (gaps_power (rate t) x i base (Q - 1) m us (λ g h. within_power n g (omega arith)) (omega arith) at places sorted)
      ∙ sym (best_is Q own rate ws i m)

  pub run_power :
      (i base v : ℕ) (us : List ℕ)
      → At ws i us
      → length us ≡ v * Q
      → Sorted us
      → power own rate base v (plan_run Q own rate ws i base v) us ≡ best Q own rate ws i v
  run_power i base v us = within_power v v (le_refl v) i base us
