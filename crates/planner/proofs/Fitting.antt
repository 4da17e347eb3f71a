-- Every sum of the recurrence fits in 64 bits, for a run within the board.
--     RunFits        a run of m + 1 islands from i on, of low loads and with a low charge ρ, over a table of low totals of shorter runs
--     below_member   what lies below a member ends within the board
--     row_most       what a row of the recurrence has is no more than its islands and members may draw
--     row_fits       what a row of the recurrence has fits in 64 bits
--     run_most       the total of a run is no more than its islands may draw
--     gaps_fit       over low rows, whatever a gap gets costs less than 2 ^ 64
-- Assumes nothing.
use Prim.Native.Nat.{ℕ, suc, ◌+◌, ◌-◌, ◌*◌, ◌≤◌, ◌<◌, ◌^◌, zero-le}
use mathlib.Core.Bool.{Bool, true, false, cond}
use mathlib.Core.List.{List}
use native.Mathlib.Nat.{le_refl, le_trans, lt_of_le_of_lt, mul-le-mul, mul-le-mul_right}
use native.Mathlib.Omega.{arith}
use lib.Dec.{ltb}
use lib.ListN.{length, get_or}
use Rattle.model.specs.Limits.{most_frequency, most_cores, most_islands}
use Rattle.optimum.specs.Best.{itself, top_load, fill, gap_cost}
use Rattle.optimum.proofs.Recurrence.{islands_parted}
use Rattle.optimum.proofs.BestBound.{Capped, fill_most}
use Rattle.planner.specs.Square.{best_at, run_cost}
use Rattle.planner.specs.Rows.{row_at}
use Rattle.planner.specs.Bounds.{most_charge, most_member, most_own, most_draw, AllBelow, Light, Bounded}
use Rattle.planner.specs.Written.{Low}

pub record RunFits (Q ρ i m : ℕ) (ws bests : List ℕ) : Type 0 where
  pub some_core : 0 < Q
  pub few_cores : Q ≤ most_cores
  pub light : Light ws
  pub charge : ρ ≤ most_charge
  pub few : m < most_islands
  pub within : i + suc m * Q ≤ length ws
  pub bounded : Bounded Q ws bests m

module _ (Q ρ i m : ℕ) (ws bests : List ℕ) (fits : RunFits Q ρ i m ws bests) where
  -- what a member is charged
  member_most : (k : ℕ) → ρ * get_or ws k 0 ≤ most_member
  member_most k = mul-le-mul {n₂ = most_charge} {m₂ = most_frequency} fits.charge (fits.light k)

  -- what lies below a member ends within the board
  pub below_member : (r n : ℕ) → r < Q → n ≤ m → i + (n * Q + suc r) ≤ length ws
  below_member r n lower few = omega (arith, mul-le-mul_right Q few, fits.within)

  capped : (r n : ℕ) → r < Q → n ≤ m → Capped most_draw Q (best_at Q bests) n (i + (n * Q + r))
  capped r n lower few j g bound inside =
      fits.bounded j g (le_trans bound few) (omega (arith, below_member r n lower few))

  -- what a row of the recurrence has
  pub row_most : (r n : ℕ) → r < Q → n ≤ m → fill Q ws (best_at Q bests) ρ i r n ≤ n * most_draw + suc r * most_member
  row_most r n lower few =
      fill_most most_draw most_member Q ws (best_at Q bests) ρ i member_most r n (capped r n lower few)

  pub row_fits : (r n : ℕ) → r < Q → n ≤ m → fill Q ws (best_at Q bests) ρ i r n < 2 ^ 64
  row_fits r n lower few =
      lt_of_le_of_lt (row_most r n lower few) (omega (arith, fits.few, fits.few_cores))

-- "An inactive island draws nothing": never more than an active one by itself
itself_most : (own t : ℕ) → itself own t ≤ own
unfolding itself
itself_most own t = go (ltb 0 t)
  where
    go : (flag : Bool) → cond flag own 0 ≤ own
    go true = le_refl own
    go false = zero-le

pub run_most :
    (Q own i m : ℕ) (ws rates bests : List ℕ)
    → RunFits Q (get_or rates (i + (m * Q + (Q - 1))) 0) i m ws bests
    → own ≤ most_own
    → run_cost Q own ws rates (best_at Q bests) i m ≤ suc m * most_draw
unfolding run_cost
run_most Q own i m ws rates bests fits little =
    omega (
      arith,
      itself_most own (top_load Q ws i m),
      row_most Q (get_or rates (i + (m * Q + (Q - 1))) 0) i m ws bests fits (Q - 1) m (omega (arith, fits.some_core)) (le_refl m),
      fits.few_cores,
      fits.some_core,
    )

pub gaps_fit :
    (Q : ℕ) (ws bests rows : List ℕ) (i r m n : ℕ)
    → Bounded Q ws bests m
    → Low rows r m
    → n ≤ m
    → m < most_islands
    → r < most_cores
    → i + (n * Q + suc r) ≤ length ws
    → AllBelow (2 ^ 64) n (gap_cost Q (best_at Q bests) (row_at rows r) i r n)
unfolding gap_cost
gaps_fit Q ws bests rows i r m n bounded low fewer few members within g h =
    let parts = islands_parted n g Q h in
    omega (
      arith,
      bounded (i + ((n - g) * Q + suc r)) g (omega arith) (omega (arith, parts)),
      low r (n - g) (le_refl r) (omega arith),
    )
