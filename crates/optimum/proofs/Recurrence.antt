-- The recurrence, without a bound on its depth in it.
--     fill_lowest            the lowest member: what it is charged, and the best of the gap below it
--     fill_member            one more member: what it is charged, and the least cost of the gap below it with all below that
--     islands_parted         the positions of m islands are those of the top gap and of the rest
--     Agree                  two tables of bests are the same for the runs of at most m islands that end at or before a place
--     fill_same, gap_same    the bests of the runs that lie in the stretch decide what it costs
--     best_none, best_is     the best of no islands, and of m + 1 by the bests of smaller runs
-- Assumes nothing.
use Prim.Native.Nat.{ℕ, zero, suc, ◌+◌, ◌-◌, ◌*◌, ◌≤◌}
use mathlib.Core.Path.{◌≡◌, refl, sym, ap, ◌∙◌}
use mathlib.Core.List.{List}
use native.Mathlib.Nat.{le_refl, not-suc-le-zero, sub-add_cancel, add-mul}
use native.Mathlib.Omega.{arith}
use Rattle.optimum.specs.Best.{itself, least, load_at, top_load, fill, gap_cost, best_within, best, fill_best}
use Rattle.optimum.proofs.First.{least_same}

pub fill_lowest :
    (Q : ℕ) (ws : List ℕ) (b : ℕ → ℕ → ℕ) (ρ i m : ℕ) → fill Q ws b ρ i 0 m ≡ ρ * load_at Q ws i m 0 + b i m
unfolding fill
fill_lowest Q ws b ρ i m = refl

pub fill_member :
    (Q : ℕ) (ws : List ℕ) (b : ℕ → ℕ → ℕ) (ρ i r m : ℕ)
    → fill Q ws b ρ i (suc r) m ≡ ρ * load_at Q ws i m (suc r) + least m (gap_cost Q b (fill Q ws b ρ i r) i r m)
unfolding fill gap_cost
fill_member Q ws b ρ i r m = refl

-- the positions of m islands, g of which stand in the top gap
pub islands_parted : (m g k : ℕ) → g ≤ m → m * k ≡ (m - g) * k + g * k
islands_parted m g k h = ap (λ (n : ℕ). n * k) (sym (sub-add_cancel h)) ∙ add-mul (m - g) g k

abbrev pub Agree : ℕ → (ℕ → ℕ → ℕ) → (ℕ → ℕ → ℕ) → ℕ → ℕ → Type 0
Agree Q b b' m end = (j g : ℕ) → g ≤ m → j + g * Q ≤ end → b j g ≡ b' j g

module _ (Q : ℕ) (ws : List ℕ) (b b' : ℕ → ℕ → ℕ) (ρ i : ℕ) where
  gap_agrees :
      (r m : ℕ)
      → ((n : ℕ) → Agree Q b b' n (i + (n * Q + r)) → fill Q ws b ρ i r n ≡ fill Q ws b' ρ i r n)
      → Agree Q b b' m (i + (m * Q + suc r))
      → (g : ℕ)
      → g ≤ m
      → gap_cost Q b (fill Q ws b ρ i r) i r m g ≡ gap_cost Q b' (fill Q ws b' ρ i r) i r m g
  unfolding gap_cost
  gap_agrees r m below same g h =
      let parts = islands_parted m g Q h in
      omega (
        arith,
        same (i + ((m - g) * Q + suc r)) g h (omega (arith, parts)),
        below (m - g) (λ j k h' inside. same j k (omega arith) (omega (arith, parts))),
      )

  pub fill_same : (r m : ℕ) → Agree Q b b' m (i + (m * Q + r)) → fill Q ws b ρ i r m ≡ fill Q ws b' ρ i r m
  unfolding fill gap_cost
  fill_same zero m same = ap (λ (n : ℕ). ρ * load_at Q ws i m 0 + n) (same i m (le_refl m) (omega arith))
  fill_same (suc r) m same =
      ap (λ (n : ℕ). ρ * load_at Q ws i m (suc r) + n)
      (least_same m (gap_cost Q b (fill Q ws b ρ i r) i r m) (gap_cost Q b' (fill Q ws b' ρ i r) i r m)
      (gap_agrees r m (fill_same r) same))

  pub gap_same :
      (r m : ℕ)
      → Agree Q b b' m (i + (m * Q + suc r))
      → (g : ℕ)
      → g ≤ m
      → gap_cost Q b (fill Q ws b ρ i r) i r m g ≡ gap_cost Q b' (fill Q ws b' ρ i r) i r m g
  gap_same r m = gap_agrees r m (fill_same r)

module _ (Q own : ℕ) (rate : ℕ → ℕ) (ws : List ℕ) where
  best_within_same : (n k i v : ℕ) → v ≤ n → v ≤ k → best_within Q own rate ws n i v ≡ best_within Q own rate ws k i v
  unfolding best_within
  best_within_same zero zero i v h h' = refl
  best_within_same zero (suc k) i zero h h' = refl
  best_within_same zero (suc k) i (suc m) h h' = absurd (not-suc-le-zero h)
  best_within_same (suc n) zero i zero h h' = refl
  best_within_same (suc n) zero i (suc m) h h' = absurd (not-suc-le-zero h')
  best_within_same (suc n) (suc k) i zero h h' = refl
  best_within_same (suc n) (suc k) i (suc m) h h' =
      ap (λ (c : ℕ). itself own (top_load Q ws i m) + c)
      (fill_same Q ws (best_within Q own rate ws n) (best_within Q own rate ws k) (rate (top_load Q ws i m)) i (Q - 1) m
      (λ j g b inside. best_within_same n k j g (omega arith) (omega arith)))

  pub best_none : (i : ℕ) → best Q own rate ws i 0 ≡ 0
  unfolding best best_within
  best_none i = refl

  pub best_is :
      (i m : ℕ)
      → best Q own rate ws i (suc m)
      ≡ itself own (top_load Q ws i m) + fill_best Q own rate ws (rate (top_load Q ws i m)) i (Q - 1) m
  unfolding best best_within
  best_is i m =
      ap (λ (c : ℕ). itself own (top_load Q ws i m) + c)
      (fill_same Q ws (best_within Q own rate ws m) (best Q own rate ws) (rate (top_load Q ws i m)) i (Q - 1) m
      (λ j g b inside. best_within_same m g j g b (le_refl g)))
