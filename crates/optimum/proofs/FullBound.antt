-- The lower bound over fair assignments of a run's loads, crossing ones too.
--     power_front     loads behind the plan's positions draw nothing
--     fair_bound      no fair assignment of a run's loads draws less than the run's best
-- Assumes nothing.
use Prim.Native.Nat.{ℕ, ◌+◌, ◌*◌, ◌≤◌, ◌<◌}
use mathlib.Core.Path.{◌≡◌, refl, sym, ap, ◌∙◌}
use mathlib.Core.List.{List, [], ◌++◌, append-nil}
use native.Mathlib.Omega.{arith}
use lib.ListN.{length}
use Rattle.model.specs.Plan.{count}
use Rattle.model.specs.Power.{held, heaviest, sum, drawn, power}
use Rattle.optimum.specs.Loads.{AtMost, Sorted, NeverFalls, At}
use Rattle.optimum.specs.Best.{itself, best}
use Rattle.optimum.specs.Fair.{Fair, over}
use Rattle.optimum.proofs.Held.{held_append, drawn_is}
use Rattle.optimum.proofs.Spread.{weighed, over_same, over_sum, spread}
use Rattle.optimum.proofs.NamedPlans.{power_same}
use Rattle.optimum.proofs.BestSplit.{best_below}
use Rattle.optimum.proofs.LowerBound.{fair_full, fair_named, lower_bound}

drawn_spread :
    (own : ℕ) (rate : ℕ → ℕ) (zs plan us : List ℕ)
    → ((z : ℕ) → 0 < count z plan → count z zs ≡ 1)
    → over (λ z. drawn own rate (held z plan us)) zs
    ≡ over (λ z. itself own (heaviest (held z plan us))) zs + weighed (λ z. rate (heaviest (held z plan us))) plan us
drawn_spread own rate zs plan us once =
    let top : ℕ → ℕ = λ z. heaviest (held z plan us) in
    over_same (λ z. drawn own rate (held z plan us)) (λ z. itself own (top z) + rate (top z) * sum (held z plan us)) zs
    (λ z some. drawn_is own rate (held z plan us))
    ∙ over_sum (λ z. itself own (top z)) (λ z. rate (top z) * sum (held z plan us)) zs
    ∙ ap (λ (n : ℕ). over (λ z. itself own (top z)) zs + n) (spread (λ z. rate (top z)) zs plan us once)

module _ (own : ℕ) (rate : ℕ → ℕ) (base v : ℕ) (plan us : List ℕ) where
  pub power_front :
      (vs : List ℕ) → length plan ≡ length us → power own rate base v plan (us ++ vs) ≡ power own rate base v plan us
  unfolding held
  power_front vs len =
      power_same own rate base v plan (us ++ vs) plan us
      (λ z low high.
      ap (λ (l : List ℕ). drawn own rate l)
      (ap (λ (l : List ℕ). held z l (us ++ vs)) (sym (append-nil plan))
      ∙ held_append z plan [] us vs len
      ∙ append-nil (held z plan us)))

-- loads that come lightest first, none above the limit, up to which the charge never falls
module _ (Q own : ℕ) (rate : ℕ → ℕ) (ws : List ℕ) (limit : ℕ) (pos : 0 < Q) (rises : NeverFalls rate limit) where
  pub fair_bound :
      (i v : ℕ) (zs plan us : List ℕ)
      → length zs ≡ v
      → Fair Q zs plan
      → length plan ≡ length us
      → Sorted us
      → AtMost limit us
      → At ws i us
      → best Q own rate ws i v ≤ over (λ z. drawn own rate (held z plan us)) zs
  fair_bound i v zs plan us size fair len sorted most at =
      let found =
      lower_bound Q own rate limit pos rises v (λ z. heaviest (held z plan us)) zs plan us size fair len sorted most
      (λ z some. refl) in
      omega (
        arith,
        best_below Q own rate ws found.1 i at,
        found.2,
        drawn_spread own rate zs plan us (λ z some. (fair_full Q zs plan fair z (fair_named Q zs plan fair z some)).0),
      )
