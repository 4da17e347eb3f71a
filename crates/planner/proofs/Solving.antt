-- From the table of bests to the whole board.
--     board_solved    the best of the whole board, and the plan that is written over all its positions, are those of the recurrence
-- Assumes nothing.
use Prim.Native.Nat.{ℕ, ◌*◌}
use mathlib.Core.Path.{◌≡◌, sym, ◌∙◌}
use mathlib.Core.List.{List, append-nil}
use native.Mathlib.Nat.{le_refl, le_of_eq, zero-add}
use native.Mathlib.Omega.{arith}
use lib.ListN.{length, drop_of_length-le}
use lib.Seq.{sets, sets-eq}
use Rattle.optimum.specs.Chosen.{plan_by}
use Rattle.optimum.proofs.Shapes.{run_length}
use Rattle.optimum.proofs.ChosenRun.{by_run}
use Rattle.optimum.proofs.ChosenSame.{plan_of_bests}
use Rattle.planner.specs.declared.charged.Positions.{Positions}
use Rattle.planner.specs.Square.{best_at, Found}
use Rattle.planner.specs.Written.{RunWritten}
use Rattle.planner.specs.Settled.{Solved}

-- a list that is as long as the one it is stored over
sets_all : (before xs : List ℕ) → length xs ≡ length before → sets before 0 xs ≡ xs
sets_all before xs as_long =
    sets-eq xs before 0 (omega arith) ∙ rw (zero-add, drop_of_length-le before (le_of_eq (sym as_long))) (append-nil xs)

pub board_solved :
    (p : Positions) (v : ℕ) (totals before after : List ℕ) (total : ℕ)
    → length p.loads.now ≡ v * p.cores
    → length before ≡ length p.loads.now
    → Found p.cores p.own.0 p.loads.now p.rates.now totals v
    → RunWritten p.cores p.loads.now p.rates.now totals before after 0 0 v
    → total ≡ best_at p.cores totals 0 v
    → Solved p.cores p.own.0 p.loads.now p.rates.now v total after
board_solved p v totals before after total places room found written least rate charged =
    let Q = p.cores in
    let ws = p.loads.now in
    let plan = plan_by Q ws (best_at Q totals) rate 0 0 v in
    let whole : length plan ≡ v * Q = run_length Q 0 v plan (by_run Q ws (best_at Q totals) rate p.some_core 0 0 v) in
    let same = found rate charged in (
      least ∙ same 0 v (le_refl v) (omega arith),
      written rate charged
          ∙ sets_all before plan (omega arith)
          ∙ plan_of_bests Q p.own.0 rate ws (best_at Q totals) v 0 0 v (le_refl v) (λ j g few inside. same j g few (omega arith)),
    )
