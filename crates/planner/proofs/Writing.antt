-- What the writer's stores come to.
--     found_within      the gap that costs least has no more islands than there are
--     none_written      no store, where there are no islands
--     lowest_written    the lowest member, and then the run below it
--     member_written    a higher member, then the run in the gap below it, then all below that
--     run_written       a run: its top island, with the rows of its own charge
--     top_made          a top island has its run's charge, and its rows are those of the run
-- Assumes nothing.
use Prim.Native.Nat.{ℕ, zero, suc, ◌+◌, ◌-◌, ◌*◌, ◌≤◌, ◌<◌}
use mathlib.Core.Path.{◌≡◌, sym, ap, subst, ◌∙◌}
use mathlib.Core.List.{List, [], ◌∷◌, ◌++◌}
use native.Mathlib.Nat.{le_refl}
use native.Mathlib.Omega.{arith}
use lib.ListN.{length, get_or, set}
use lib.Seq.{sets}
use Rattle.optimum.specs.Best.{first, gap_cost, load_at, top_load, fill}
use Rattle.optimum.specs.Chosen.{chosen, plan_gaps, plan_by}
use Rattle.optimum.proofs.First.{first_within, first_same}
use Rattle.optimum.proofs.Recurrence.{islands_parted}
use Rattle.optimum.proofs.ChosenRun.{gaps_lowest, gaps_member, by_none, by_is, by_run, by_gaps}
use Rattle.optimum.proofs.Shapes.{run_length, gaps_length}
use Rattle.planner.specs.declared.bests.Bests.{Bests}
use Rattle.planner.specs.declared.rows.Rows.{Rows}
use Rattle.planner.specs.declared.top.Top.{Top}
use Rattle.planner.specs.Square.{best_at}
use Rattle.planner.specs.Rows.{row_at, Filling}
use Rattle.planner.specs.Members.{TopFilled}
use Rattle.planner.specs.Written.{RunWritten, GapsWritten}
use Rattle.planner.proofs.Figures.{one_below, gap_by_rows}
use Rattle.planner.proofs.Stores.{sets_joined, sets_three}

pub found_within : (m g : ℕ) (h : ℕ → ℕ) → g ≡ first m h → g ≤ m
found_within m g h found = omega (arith, first_within m h)

module _ (bests : Bests) where
  abbrev Q : ℕ
  Q = bests.positions.cores

  abbrev ws : List ℕ
  ws = bests.positions.loads.now

  abbrev rates : List ℕ
  rates = bests.positions.rates.now

  abbrev totals : List ℕ
  totals = bests.totals.now

  abbrev b : ℕ → ℕ → ℕ
  b = best_at Q totals

  pub none_written : (before : List ℕ) (i base v : ℕ) → v < 1 → RunWritten Q ws rates totals before before i base v
  none_written before i base zero none rate charged = ap (λ (l : List ℕ). sets before i l) (sym (by_none Q ws b rate i base))
  none_written before i base (suc m) none rate charged = absurd (omega arith)

  -- over rows of the recurrence, the gap that costs least is the one that the plan chooses
  found_chosen :
      (rows : List ℕ) (ρ i r m : ℕ) → Filling Q ws b ρ i rows r m → first m (gap_cost Q b (row_at rows r) i r m) ≡ chosen Q ws b ρ i r m
  unfolding chosen
  found_chosen rows ρ i r m filling =
      first_same m (gap_cost Q b (row_at rows r) i r m) (gap_cost Q b (fill Q ws b ρ i r) i r m)
      (λ g h. gap_by_rows Q b (row_at rows r) (fill Q ws b ρ i r) i r m (λ n few. filling r n (le_refl r) few) g)

  pub lowest_written :
      (rows before after : List ℕ) (x i base r m : ℕ)
      → r < 1
      → RunWritten Q ws rates totals (set before (i + (m * Q + r)) x) after i base m
      → GapsWritten Q ws rates totals before after rows x i base r m
  lowest_written rows before after x i base (suc r) m none run rate charged ρ filling = absurd (omega arith)
  lowest_written rows before after x i base zero m none run rate charged ρ filling =
      run rate charged
      ∙ sets_joined before i (i + (m * Q + 0)) (plan_by Q ws b rate i base m) (x ∷ [])
      (omega (arith, run_length Q base m (plan_by Q ws b rate i base m) (by_run Q ws b rate bests.positions.some_core i base m)))
      ∙ ap (λ (l : List ℕ). sets before i l) (sym (gaps_lowest Q ws b (plan_by Q ws b rate) ρ x i base m))

  member_at :
      (rows before between after : List ℕ) (x i base r m g : ℕ)
      → g ≡ first m (gap_cost Q b (row_at rows r) i r m)
      → RunWritten Q ws rates totals (set before (i + (m * Q + suc r)) x) between (i + ((m - g) * Q + suc r)) (base + (m - g)) g
      → GapsWritten Q ws rates totals between after rows x i base r (m - g)
      → GapsWritten Q ws rates totals before after rows x i base (suc r) m
  member_at rows before between after x i base r m g found gap rest rate charged ρ filling =
      let inner : ℕ → ℕ → ℕ → List ℕ = plan_by Q ws b rate in
      let within = found_within m g (gap_cost Q b (row_at rows r) i r m) found in
      let low = plan_gaps Q ws b inner ρ x i base r (m - g) in
      let place = i + ((m - g) * Q + suc r) in
      rest rate charged ρ (λ s n hs hn. filling s n (omega arith) (omega arith))
      ∙ ap (λ (l : List ℕ). sets l i low) (gap rate charged)
      ∙ sets_three before i place (i + (m * Q + suc r)) x low (inner place (base + (m - g)) g)
      (omega (arith, gaps_length Q x base r (m - g) low (by_gaps Q ws b rate bests.positions.some_core ρ x i base r (m - g))))
      (omega (
        arith,
        run_length Q (base + (m - g)) g (inner place (base + (m - g)) g) (by_run Q ws b rate bests.positions.some_core place (base + (m - g)) g),
        islands_parted m g Q within,
      ))
      ∙ ap (λ (k : ℕ).
      sets before i
      (plan_gaps Q ws b inner ρ x i base r (m - k) ++ (inner (i + ((m - k) * Q + suc r)) (base + (m - k)) k ++ (x ∷ []))))
      (found ∙ found_chosen rows ρ i r m (λ s n hs hn. filling s n (omega arith) hn))
      ∙ ap (λ (l : List ℕ). sets before i l) (sym (gaps_member Q ws b inner ρ x i base r m))

  pub member_written :
      (rows before between after : List ℕ) (x i base r m g : ℕ)
      → 0 < r
      → g ≡ first m (gap_cost Q b (row_at rows (r - 1)) i (r - 1) m)
      → RunWritten Q ws rates totals (set before (i + (m * Q + r)) x) between (i + ((m - g) * Q + r)) (base + (m - g)) g
      → GapsWritten Q ws rates totals between after rows x i base (r - 1) (m - g)
      → GapsWritten Q ws rates totals before after rows x i base r m
  member_written rows before between after x i base r m g higher found gap rest =
      subst
      (λ (k : ℕ).
      RunWritten Q ws rates totals (set before (i + (m * Q + k)) x) between (i + ((m - g) * Q + k)) (base + (m - g)) g
      → GapsWritten Q ws rates totals before after rows x i base k m)
      (one_below r higher) (λ run. member_at rows before between after x i base (r - 1) m g found run rest) gap

  run_at :
      (rows before after : List ℕ) (ρ i base m : ℕ)
      → i + suc m * Q ≤ length ws
      → ρ ≡ get_or rates (i + (m * Q + (Q - 1))) 0
      → Filling Q ws b ρ i rows (Q - 1) m
      → GapsWritten Q ws rates totals before after rows (base + suc m) i base (Q - 1) m
      → RunWritten Q ws rates totals before after i base (suc m)
  unfolding top_load load_at
  run_at rows before after ρ i base m within highest filling top rate charged =
      top rate charged ρ filling
      ∙ ap (λ (o : ℕ). sets before i (plan_gaps Q ws b (plan_by Q ws b rate) o (base + suc m) i base (Q - 1) m))
      (highest ∙ charged (i + (m * Q + (Q - 1))) (omega (arith, bests.positions.some_core)))
      ∙ ap (λ (l : List ℕ). sets before i l) (sym (by_is Q ws b rate i base m))

  pub run_written :
      (rows before after : List ℕ) (ρ i base v : ℕ)
      → 0 < v
      → i + v * Q ≤ length ws
      → ρ ≡ get_or rates (i + ((v - 1) * Q + (Q - 1))) 0
      → Filling Q ws b ρ i rows (Q - 1) (v - 1)
      → GapsWritten Q ws rates totals before after rows (base + v) i base (Q - 1) (v - 1)
      → RunWritten Q ws rates totals before after i base v
  run_written rows before after ρ i base v some within highest filling top =
      subst
      (λ (k : ℕ).
      i + k * Q ≤ length ws
      → GapsWritten Q ws rates totals before after rows (base + k) i base (Q - 1) (v - 1)
      → RunWritten Q ws rates totals before after i base k)
      (one_below v some) (λ room. run_at rows before after ρ i base (v - 1) room highest filling) within top

module _ (top : Top) (rows : Rows) where
  abbrev Made : Bests → (i m : ℕ) → Type 0
  Made bests i m =
      let p = bests.positions in
      (top.rate.0 ≡ get_or p.rates.now (i + (m * p.cores + (p.cores - 1))) 0)
      × Filling p.cores p.loads.now (best_at p.cores bests.totals.now) top.rate.0 i rows.figures (p.cores - 1) m

  pub top_made :
      (bests : Bests) (i m : ℕ)
      → top.bests ≡ bests
      → top.start ≡ i
      → top.inner ≡ m
      → TopFilled top rows (top.bests.positions.cores - 1)
      → Made bests i m
  top_made bests i m of_bests from islands filled =
      subst (λ (b : Bests). Made b i m) of_bests
      (subst (λ (k : ℕ). Made top.bests k m) from (subst (λ (k : ℕ). Made top.bests top.start k) islands (top.charged, filled)))
