-- The plan function over any table of bests.
--     plan_same                   the bests within the run's stretch decide its plan
--     plan_of_bests               so a table that has the bests of the recurrence there gives its plan
-- Assumes nothing.
use Prim.Native.Nat.{ℕ, zero, suc, ◌+◌, ◌-◌, ◌*◌, ◌≤◌}
use mathlib.Core.Path.{◌≡◌, refl, ◌∙◌}
use mathlib.Core.List.{List}
use native.Mathlib.Nat.{le_refl}
use native.Mathlib.Omega.{arith}
use Rattle.optimum.specs.Best.{top_load, best}
use Rattle.optimum.specs.Chosen.{plan_within, plan_run}
use Rattle.optimum.proofs.Recurrence.{Agree}
use Rattle.optimum.proofs.ChosenRun.{walker_same, within_same}

module _ (Q : ℕ) (ws : List ℕ) (b b' : ℕ → ℕ → ℕ) (rate : ℕ → ℕ) where
  pub plan_same :
      (n i base v : ℕ)
      → v ≤ n
      → Agree Q b b' v (i + v * Q)
      → plan_within Q ws b rate n i base v ≡ plan_within Q ws b' rate n i base v
  unfolding plan_within
  plan_same zero i base v bound same = refl
  plan_same (suc n) i base zero bound same = refl
  plan_same (suc n) i base (suc m) bound same =
      walker_same Q ws b b' (plan_within Q ws b rate n) (plan_within Q ws b' rate n) (rate (top_load Q ws i m)) (base + suc m) i base (Q - 1) m
      (λ j g h inside. same j g (omega arith) (omega arith))
      (λ j k g h inside. plan_same n j k g (omega arith) (λ j' g' h' inside'. same j' g' (omega arith) (omega arith)))

pub plan_of_bests :
    (Q own : ℕ) (rate : ℕ → ℕ) (ws : List ℕ) (b : ℕ → ℕ → ℕ) (n i base v : ℕ)
    → v ≤ n
    → Agree Q b (best Q own rate ws) v (i + v * Q)
    → plan_within Q ws b rate n i base v ≡ plan_run Q own rate ws i base v
unfolding plan_run
plan_of_bests Q own rate ws b n i base v bound same =
    plan_same Q ws b (best Q own rate ws) rate n i base v bound same
    ∙ within_same Q ws (best Q own rate ws) rate n v i base v bound (le_refl v)
