-- The table of bests grows by the runs of one island more.
--     Growing        a table in which the runs of m + 1 islands that begin before `start` are added
--     growing_more   one more is added
--     Known          a table that has the best of each run of at most m islands
--     known_none     any table is one for no islands
--     known_more     and with the runs of one island more added for these
-- Assumes nothing.
use Prim.Native.Nat.{ℕ, zero, suc, ◌+◌, ◌-◌, ◌*◌, ◌%◌, ◌≤◌, ◌<◌, zero-le}
use mathlib.Core.Path.{◌≡◌, sym, ap, ◌∙◌, subst}
use mathlib.Core.List.{List}
use native.Mathlib.Nat.{not-suc-le-zero, le_trans, mod-eq_of_lt}
use native.Mathlib.Decide.{dec_lt, ℕ_discrete}
use native.Mathlib.Numerals.{add-one}
use native.Mathlib.Omega.{arith}
use lib.ListN.{length, get_or}
use Rattle.model.specs.Limits.{most_islands, most_places}
use Rattle.optimum.specs.Best.{itself, load_at, top_load, fill, best}
use Rattle.optimum.proofs.Recurrence.{Agree, fill_same, best_none, best_is}
use Rattle.planner.specs.Positions.{Charged}
use Rattle.planner.specs.declared.charged.Positions.{Positions}
use Rattle.planner.specs.Square.{best_at, run_cost, Grown, Filled, Found}
use Rattle.planner.specs.Bounds.{most_draw, Bounded}
use Rattle.planner.proofs.Fitting.{run_most}
use Rattle.planner.proofs.TopFits.{positions_fit}

-- the last position of a run is within it
module _ (Q : ℕ) (ws : List ℕ) (i m : ℕ) (pos : 0 < Q) (inside : i + suc m * Q ≤ length ws) where
  last_inside : i + (m * Q + (Q - 1)) < length ws
  last_inside = omega arith

-- the total of a run is decided by what the tables have for shorter runs within it
cost_same :
    (Q own : ℕ) (ws rates : List ℕ) (b b' : ℕ → ℕ → ℕ) (i m : ℕ)
    → Agree Q b b' m (i + (m * Q + (Q - 1)))
    → run_cost Q own ws rates b i m ≡ run_cost Q own ws rates b' i m
unfolding run_cost
cost_same Q own ws rates b b' i m same =
    ap (λ (c : ℕ). itself own (top_load Q ws i m) + c)
    (fill_same Q ws b b' (get_or rates (i + (m * Q + (Q - 1))) 0) i (Q - 1) m same)

nothing_bounded : (Q : ℕ) (ws bests : List ℕ) → Bounded Q ws bests 0
unfolding best_at
nothing_bounded Q ws bests i zero few inside = zero-le
nothing_bounded Q ws bests i (suc g) few inside = absurd (not-suc-le-zero few)

nothing_filled : (Q own : ℕ) (ws rates bests : List ℕ) → Found Q own ws rates bests 0
unfolding best_at
nothing_filled Q own ws rates bests rate charged i zero few inside = sym (best_none Q own rate ws i)
nothing_filled Q own ws rates bests rate charged i (suc g) few inside = absurd (not-suc-le-zero few)

module _ (p : Positions) (before : List ℕ) (m : ℕ) where
  abbrev Q : ℕ
  Q = p.cores

  abbrev ws : List ℕ
  ws = p.loads.now

  -- the total of a run of m + 1 islands
  abbrev total : ℕ → ℕ
  total i = run_cost Q p.own.0 ws p.rates.now (best_at Q before) i m

  pub record Growing (now : List ℕ) (start : ℕ) : Type 0 where
    pub kept : (i g : ℕ) → g ≤ m → i + g * Q ≤ length ws → best_at Q now i g ≡ best_at Q before i g
    pub added : (i : ℕ) → i < start → i + suc m * Q ≤ length ws → best_at Q now i (suc m) ≡ total i

  pub growing_more :
      (now next : List ℕ) (start : ℕ)
      → start + suc m * Q ≤ length ws
      → best_at Q next start (suc m) ≡ run_cost Q p.own.0 ws p.rates.now (best_at Q now) start m
      → ((i g : ℕ) → i + g * Q ≤ most_places → ¬ ((i ≡ start) × (g ≡ suc m)) → best_at Q next i g ≡ best_at Q now i g)
      → Growing now start
      → Growing next (start + 1)
  growing_more now next start within stored others growing =
      record {
        kept = λ i g few inside. others i g (le_trans inside p.few_places) (λ same. omega (arith, same.1)) ∙ growing.kept i g few inside;
        added = λ i bound inside.
            elim (ℕ_discrete i start) [
              | yes e ↦
                  ap (λ (j : ℕ). best_at Q next j (suc m)) e
                  ∙ stored
                  ∙ cost_same Q p.own.0 ws p.rates.now (best_at Q now) (best_at Q before) start m
                  (λ j g few ends. growing.kept j g few (omega (arith, last_inside Q ws start m p.some_core within)))
                  ∙ ap total (sym e)
              | no differs ↦
                  others i (suc m) (le_trans inside p.few_places) (λ same. differs same.0) ∙ growing.added i (omega arith) inside
            ];
      }

  -- what holds of each run of at most m islands, and of each of m + 1, holds of each of at most m + 1
  one_more :
      (P : ℕ → ℕ → Type 0)
      → ((i g : ℕ) → g ≤ m → i + g * Q ≤ length ws → P i g)
      → ((i : ℕ) → i + suc m * Q ≤ length ws → P i (suc m))
      → (i g : ℕ)
      → g ≤ suc m
      → i + g * Q ≤ length ws
      → P i g
  one_more P shorter longest i g few inside =
      elim (dec_lt m g) [
        | yes above ↦
            let all : suc m ≡ g = omega arith in
            subst (λ (n : ℕ). i + n * Q ≤ length ws → P i n) all (longest i) inside
        | no below ↦ shorter i g (omega arith) inside
      ]

  module _ (after : List ℕ) (grown : Grown Q p.own.0 ws p.rates.now before after m) where
    grown_bounded : m < most_islands → Bounded Q ws before m → Bounded Q ws after (suc m)
    grown_bounded few bounded =
        one_more (λ i g. best_at Q after i g ≤ g * most_draw)
        (λ i g fewer inside. omega (arith, grown.kept i g fewer inside, bounded i g fewer inside))
        (λ i inside.
        let fits =
        positions_fit p before (get_or p.rates.now (i + (m * Q + (Q - 1))) 0) i m (p.cheap.cheap _) few inside bounded in
        omega (arith, grown.added i inside, run_most Q p.own.0 i m ws p.rates.now before fits p.own_low))

    grown_filled :
        (rate : ℕ → ℕ) → Charged rate ws p.rates.now → Filled Q p.own.0 rate ws before m → Filled Q p.own.0 rate ws after (suc m)
    unfolding run_cost top_load load_at
    grown_filled rate charged filled =
        one_more (λ i g. best_at Q after i g ≡ best Q p.own.0 rate ws i g)
        (λ i g fewer inside. grown.kept i g fewer inside ∙ filled i g fewer inside)
        (λ i inside.
        grown.added i inside
        ∙ cost_same Q p.own.0 ws p.rates.now (best_at Q before) (best Q p.own.0 rate ws) i m
        (λ j k few ends. filled j k few (omega (arith, last_inside Q ws i m p.some_core inside)))
        ∙ ap (λ (ρ : ℕ). itself p.own.0 (top_load Q ws i m) + fill Q ws (best Q p.own.0 rate ws) ρ i (Q - 1) m)
        (charged (i + (m * Q + (Q - 1))) (last_inside Q ws i m p.some_core inside))
        ∙ sym (best_is Q p.own.0 rate ws i m))

pub record Known (p : Positions) (totals : List ℕ) (m : ℕ) : Type 0 where
  pub bounded : Bounded p.cores p.loads.now totals m
  pub found : Found p.cores p.own.0 p.loads.now p.rates.now totals m

pub known_none : (p : Positions) (totals : List ℕ) → Known p totals 0
known_none p totals =
    record {
      bounded = nothing_bounded p.cores p.loads.now totals;
      found = nothing_filled p.cores p.own.0 p.loads.now p.rates.now totals;
    }

pub known_more :
    (p : Positions) (before after : List ℕ) (m : ℕ)
    → m < most_islands
    → Known p before m
    → Grown p.cores p.own.0 p.loads.now p.rates.now before after (m % most_islands)
    → Known p after (m + 1)
known_more p before after m few known added =
    let remainder : m % most_islands ≡ m = mod-eq_of_lt few in
    let grown = subst (λ (n : ℕ). Grown p.cores p.own.0 p.loads.now p.rates.now before after n) remainder added in
    rw add-one
    (record {
      bounded = grown_bounded p before m after grown few known.bounded;
      found = λ rate charged. grown_filled p before m after grown rate charged (known.found rate charged);
    })
