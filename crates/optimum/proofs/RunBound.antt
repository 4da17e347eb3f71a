-- The lower bound over the model's full plans of a run, crossing ones too.
--     best_bound      no full plan of a run draws less than the run's best
-- Assumes nothing.
use Prim.Native.Nat.{ℕ, ◌*◌, ◌≤◌, ◌<◌}
use mathlib.Core.Path.{◌≡◌, sym, ap, ◌∙◌}
use mathlib.Core.Logic.{inl, inr}
use mathlib.Core.List.{List}
use native.Mathlib.Nat.{one-mul, zero-mul, le_trans, le_of_eq}
use native.Mathlib.Omega.{arith}
use lib.ListN.{length}
use Rattle.model.specs.Plan.{count, Full}
use Rattle.model.specs.Power.{held, drawn, power}
use Rattle.optimum.specs.Loads.{AtMost, Sorted, NeverFalls, At}
use Rattle.optimum.specs.Best.{best}
use Rattle.optimum.specs.Fair.{Fair}
use Rattle.optimum.proofs.Spread.{islands, each_over, islands_once, islands_length}
use Rattle.optimum.proofs.NamedPlans.{in_or_out, islands_outside, named_outside, full_length}
use Rattle.optimum.proofs.FullBound.{fair_bound}

full_fair : (Q base v : ℕ) (plan : List ℕ) → Full Q base v plan → Fair Q (islands base v) plan
full_fair Q base v plan full = record { once = once; filled = filled }
  where
    once : (z : ℕ) → count z (islands base v) ≤ 1
    once z =
        elim (in_or_out base v z) [
          | inl within ↦ le_of_eq (islands_once base v z within.0 within.1)
          | inr out ↦ omega (arith, islands_outside base v z out)
        ]

    filled : (z : ℕ) → count z plan ≡ count z (islands base v) * Q
    filled z =
        elim (in_or_out base v z) [
          | inl within ↦
              full.filled z within.0 within.1
              ∙ sym (ap (λ (n : ℕ). n * Q) (islands_once base v z within.0 within.1) ∙ one-mul Q)
          | inr out ↦
              named_outside base v plan full.named z out
              ∙ sym (ap (λ (n : ℕ). n * Q) (islands_outside base v z out) ∙ zero-mul Q)
        ]

-- loads that come lightest first, none above the limit, up to which the charge never falls
module _ (Q own : ℕ) (rate : ℕ → ℕ) (ws : List ℕ) (limit : ℕ) (pos : 0 < Q) (rises : NeverFalls rate limit) where
  pub best_bound :
      (i base v : ℕ) (plan us : List ℕ)
      → Full Q base v plan
      → length us ≡ v * Q
      → Sorted us
      → AtMost limit us
      → At ws i us
      → best Q own rate ws i v ≤ power own rate base v plan us
  unfolding power
  best_bound i base v plan us full len sorted most at =
      le_trans
      (fair_bound Q own rate ws limit pos rises i v (islands base v) plan us (islands_length base v) (full_fair Q base v plan full)
      (full_length Q base v plan full ∙ sym len) sorted most at)
      (le_of_eq (sym (each_over (λ z. drawn own rate (held z plan us)) base v)))
