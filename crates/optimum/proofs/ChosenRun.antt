-- The plan function, without a bound on its depth, and that its plans are run-shaped.
--     by_none, by_is              the plan of no islands, and of m + 1 by those of smaller runs, over any table of bests
--     by_run, by_gaps             what they give is run-shaped
--     plan_none, plan_is, run_chosen, gaps_run    the same over the bests of the recurrence
--     gaps_lowest, gaps_member    the gap walker, by its members
--     chosen_within               a gap gets no more islands than there are
--     chosen_same, walker_same    the bests within the stretch, and the runs in the gaps, decide them
--     within_same                 every bound on the depth that is enough gives one plan
-- Assumes nothing.
use Prim.Native.Nat.{ℕ, zero, suc, ◌+◌, ◌-◌, ◌*◌, ◌≤◌, ◌<◌}
use mathlib.Core.Path.{◌≡◌, refl, sym, ap, ◌∙◌, subst}
use mathlib.Core.List.{List, [], ◌∷◌, ◌++◌}
use native.Mathlib.Nat.{le_refl, le_trans, not-suc-le-zero, sub-le, sub-add_cancel}
use native.Mathlib.Omega.{arith}
use Rattle.optimum.specs.Best.{top_load, fill, gap_cost, best}
use Rattle.optimum.specs.Shape.{Run, Gaps}
use Rattle.optimum.specs.Chosen.{chosen, plan_gaps, plan_within, plan_by, plan_run, walk}
use Rattle.optimum.proofs.First.{first_within, first_same}
use Rattle.optimum.proofs.Recurrence.{Agree, islands_parted, gap_same}

module _ (Q : ℕ) (ws : List ℕ) (b : ℕ → ℕ → ℕ) where
  pub chosen_within : (ρ i r m : ℕ) → chosen Q ws b ρ i r m ≤ m
  unfolding chosen
  chosen_within ρ i r m = first_within m (gap_cost Q b (fill Q ws b ρ i r) i r m)

  module _ (inner : ℕ → ℕ → ℕ → List ℕ) (ρ x i base : ℕ) where
    pub gaps_lowest : (m : ℕ) → plan_gaps Q ws b inner ρ x i base 0 m ≡ inner i base m ++ (x ∷ [])
    unfolding plan_gaps
    gaps_lowest m = refl

    pub gaps_member :
        (r m : ℕ)
        → plan_gaps Q ws b inner ρ x i base (suc r) m
        ≡ plan_gaps Q ws b inner ρ x i base r (m - chosen Q ws b ρ i r m)
        ++ (inner (i + ((m - chosen Q ws b ρ i r m) * Q + suc r)) (base + (m - chosen Q ws b ρ i r m)) (chosen Q ws b ρ i r m)
        ++ (x ∷ []))
    unfolding plan_gaps
    gaps_member r m = refl

    gaps_chosen :
        (r m : ℕ)
        → ((j k g : ℕ) → g ≤ m → Run Q k g (inner j k g))
        → Gaps Q x base r m (plan_gaps Q ws b inner ρ x i base r m)
    unfolding plan_gaps
    gaps_chosen zero m runs = Gaps.lowest (inner i base m) refl (runs i base m (le_refl m)) refl
    gaps_chosen (suc r) m runs =
        let g = chosen Q ws b ρ i r m in
        Gaps.member r (m - g) g (plan_gaps Q ws b inner ρ x i base r (m - g)) (inner (i + ((m - g) * Q + suc r)) (base + (m - g)) g)
        refl (sym (sub-add_cancel (chosen_within ρ i r m)))
        (gaps_chosen r (m - g) (λ j k h bound. runs j k h (le_trans bound (sub-le m g))))
        (runs (i + ((m - g) * Q + suc r)) (base + (m - g)) g (chosen_within ρ i r m)) refl

module _ (Q : ℕ) (ws : List ℕ) (b b' : ℕ → ℕ → ℕ) where
  pub chosen_same : (ρ i r m : ℕ) → Agree Q b b' m (i + (m * Q + suc r)) → chosen Q ws b ρ i r m ≡ chosen Q ws b' ρ i r m
  unfolding chosen
  chosen_same ρ i r m same =
      first_same m (gap_cost Q b (fill Q ws b ρ i r) i r m) (gap_cost Q b' (fill Q ws b' ρ i r) i r m) (gap_same Q ws b b' ρ i r m same)

  pub walker_same :
      (inner inner' : ℕ → ℕ → ℕ → List ℕ) (ρ x i base r m : ℕ)
      → Agree Q b b' m (i + (m * Q + r))
      → ((j k g : ℕ) → g ≤ m → j + g * Q ≤ i + (m * Q + r) → inner j k g ≡ inner' j k g)
      → plan_gaps Q ws b inner ρ x i base r m ≡ plan_gaps Q ws b' inner' ρ x i base r m
  unfolding plan_gaps
  walker_same inner inner' ρ x i base zero m bests runs =
      ap (λ (l : List ℕ). l ++ (x ∷ [])) (runs i base m (le_refl m) (omega arith))
  walker_same inner inner' ρ x i base (suc r) m bests runs =
      let g = chosen Q ws b ρ i r m in
      let within = chosen_within Q ws b ρ i r m in
      let parts = islands_parted m g Q within in
      let place = i + ((m - g) * Q + suc r) in
      ap (λ (l : List ℕ). l ++ (inner place (base + (m - g)) g ++ (x ∷ [])))
      (walker_same inner inner' ρ x i base r (m - g)
      (λ j k bound inside. bests j k (omega arith) (omega (arith, parts)))
      (λ j k h bound inside. runs j k h (omega arith) (omega (arith, parts))))
      ∙ ap (λ (l : List ℕ). plan_gaps Q ws b' inner' ρ x i base r (m - g) ++ (l ++ (x ∷ [])))
      (runs place (base + (m - g)) g within (omega (arith, parts)))
      ∙ ap (λ (k : ℕ). plan_gaps Q ws b' inner' ρ x i base r (m - k)
      ++ (inner' (i + ((m - k) * Q + suc r)) (base + (m - k)) k ++ (x ∷ [])))
      (chosen_same ρ i r m bests)

module _ (Q : ℕ) (ws : List ℕ) (b : ℕ → ℕ → ℕ) (rate : ℕ → ℕ) where
  pub within_same :
      (n k i base v : ℕ) → v ≤ n → v ≤ k → plan_within Q ws b rate n i base v ≡ plan_within Q ws b rate k i base v
  unfolding plan_within
  within_same zero zero i base v h h' = refl
  within_same zero (suc k) i base zero h h' = refl
  within_same zero (suc k) i base (suc m) h h' = absurd (not-suc-le-zero h)
  within_same (suc n) zero i base zero h h' = refl
  within_same (suc n) zero i base (suc m) h h' = absurd (not-suc-le-zero h')
  within_same (suc n) (suc k) i base zero h h' = refl
  within_same (suc n) (suc k) i base (suc m) h h' =
      walker_same Q ws b b (plan_within Q ws b rate n) (plan_within Q ws b rate k) (rate (top_load Q ws i m)) (base + suc m) i base (Q - 1) m
      (λ j g bound inside. refl) (λ j c g bound inside. within_same n k j c g (omega arith) (omega arith))

  pub by_none : (i base : ℕ) → plan_by Q ws b rate i base 0 ≡ []
  unfolding plan_within
  by_none i base = refl

  pub by_is :
      (i base m : ℕ)
      → plan_by Q ws b rate i base (suc m)
      ≡ plan_gaps Q ws b (plan_by Q ws b rate) (rate (top_load Q ws i m)) (base + suc m) i base (Q - 1) m
  unfolding plan_within
  by_is i base m =
      walker_same Q ws b b (plan_within Q ws b rate m) (plan_by Q ws b rate) (rate (top_load Q ws i m)) (base + suc m) i base (Q - 1) m
      (λ j g bound inside. refl) (λ j c g bound inside. within_same m g j c g bound (le_refl g))

  -- what the function gives is run-shaped, whatever the table holds
  run_within : 0 < Q → (n i base v : ℕ) → v ≤ n → Run Q base v (plan_by Q ws b rate i base v)
  run_within pos zero i base zero bound = Run.empty refl (by_none i base)
  run_within pos zero i base (suc m) bound = absurd (not-suc-le-zero bound)
  run_within pos (suc n) i base zero bound = Run.empty refl (by_none i base)
  run_within pos (suc n) i base (suc m) bound =
      subst (λ (l : List ℕ). Run Q base (suc m) l) (sym (by_is i base m))
      (Run.top (Q - 1) m (sub_add_one pos) refl
      (gaps_chosen Q ws b (plan_by Q ws b rate) (rate (top_load Q ws i m)) (base + suc m) i base (Q - 1) m
      (λ j k g few. run_within pos n j k g (omega arith))))
    where
      sub_add_one : 0 < Q → suc (Q - 1) ≡ Q
      sub_add_one h = omega arith

  pub by_run : 0 < Q → (i base v : ℕ) → Run Q base v (plan_by Q ws b rate i base v)
  by_run pos i base v = run_within pos v i base v (le_refl v)

  -- the walker's plans too, over the runs that the function gives
  pub by_gaps :
      0 < Q → (ρ x i base r m : ℕ) → Gaps Q x base r m (plan_gaps Q ws b (plan_by Q ws b rate) ρ x i base r m)
  by_gaps pos ρ x i base r m = gaps_chosen Q ws b (plan_by Q ws b rate) ρ x i base r m (λ j k g bound. by_run pos j k g)

module _ (Q own : ℕ) (rate : ℕ → ℕ) (ws : List ℕ) where
  pub plan_none : (i base : ℕ) → plan_run Q own rate ws i base 0 ≡ []
  unfolding plan_run
  plan_none = by_none Q ws (best Q own rate ws) rate

  pub plan_is :
      (i base m : ℕ)
      → plan_run Q own rate ws i base (suc m)
      ≡ walk Q own rate ws (rate (top_load Q ws i m)) (base + suc m) i base (Q - 1) m
  unfolding plan_run
  plan_is = by_is Q ws (best Q own rate ws) rate

  pub run_chosen : 0 < Q → (i base v : ℕ) → Run Q base v (plan_run Q own rate ws i base v)
  unfolding plan_run
  run_chosen = by_run Q ws (best Q own rate ws) rate

  pub gaps_run : 0 < Q → (ρ x i base r m : ℕ) → Gaps Q x base r m (walk Q own rate ws ρ x i base r m)
  unfolding plan_run
  gaps_run = by_gaps Q ws (best Q own rate ws) rate
