-- A run-shaped plan, read as a split: its power is the cost.
--     gaps-heaviest    the top island's heaviest load is the last
--     run-split     a run of sorted loads is a split of them, at what it draws
--     gaps-fill     the same of the lowest members of an island with the gaps below them
-- Assumes nothing.
use Prim.Native.Nat.{ℕ, ◌+◌, ◌<◌}
use mathlib.Core.Path.{◌≡◌, sym, ap, ◌∙◌, subst}
use mathlib.Core.List.{List, [], ◌∷◌, ◌++◌}
use native.Mathlib.Nat.{zero-lt-suc}
use native.Mathlib.Omega.{arith}
use lib.ListN.{length}
use Rattle.model.specs.Power.{each, held, heaviest, sum, power}
use Rattle.model.specs.Refusals.{last_of}
use Rattle.optimum.specs.Loads.{Sorted}
use Rattle.optimum.specs.Shape.{Run, Gaps}
use Rattle.optimum.specs.Split.{Split, Fill}
use Rattle.optimum.proofs.Lists.{no-entries, cut-end, last-append}
use Rattle.optimum.proofs.BestSplit.{at-start}
use Rattle.optimum.proofs.Shapes.{gaps-end}
use Rattle.optimum.proofs.SortedLoads.{top-heaviest}
use Rattle.optimum.proofs.RunPower.{charged, power-top}
use Rattle.optimum.proofs.Cuts.{lowest-cut, member-cut}

module _ (Q own : ℕ) (rate : ℕ → ℕ) where
  pub gaps-heaviest :
      (x base r m : ℕ) (plan us : List ℕ)
      → Gaps Q x base r m plan
      → length plan ≡ length us
      → Sorted us
      → heaviest (held x plan us) ≡ last_of us
  gaps-heaviest x base r m plan us gaps len sorted =
      let end = gaps-end Q x base r m plan gaps in
      let cut = cut-end end.0 x us (ap (λ (l : List ℕ). length l) (sym end.1) ∙ len) in
      ap (λ (l : List ℕ). heaviest (held x l us)) end.1
      ∙ ap (λ (l : List ℕ). heaviest (held x (end.0 ++ (x ∷ [])) l)) cut.2
      ∙ top-heaviest x end.0 cut.0 cut.1 cut.3 (subst (λ (l : List ℕ). Sorted l) cut.2 sorted)
      ∙ sym (ap (λ (l : List ℕ). last_of l) cut.2 ∙ last-append cut.0 (cut.1 ∷ []) (zero-lt-suc 0))

  mutual
    unfolding power each sum

    pub run-split :
        (base v : ℕ) (plan us : List ℕ)
        → Run Q base v plan
        → length plan ≡ length us
        → Sorted us
        → Split Q own rate us v (power own rate base v plan us)
    run-split base v plan us (Run.empty none whole) len sorted =
        let no-loads : us ≡ [] = no-entries us (sym len ∙ ap (λ (l : List ℕ). length l) whole) in
        let draws : power own rate base v plan us ≡ 0 = ap (λ (n : ℕ). power own rate base n plan us) none in
        Split.empty no-loads none draws
    run-split base v plan us (Run.top r m members more gaps) len sorted =
        let x = base + v in
        let heavy : heaviest (held x plan us) ≡ last_of us = gaps-heaviest x base r m plan us gaps len sorted in
        Split.top r m (charged own rate (rate (last_of us)) x base m plan us) members more
        (gaps-fill (rate (last_of us)) x base r m plan us gaps (omega arith) len sorted)
        (power-top own rate base v m (last_of us) plan us more heavy)

    pub gaps-fill :
        (ρ x base r m : ℕ) (plan us : List ℕ)
        → Gaps Q x base r m plan
        → base + m < x
        → length plan ≡ length us
        → Sorted us
        → Fill Q own rate ρ us r m (charged own rate ρ x base m plan us)
    gaps-fill ρ x base r m plan us (Gaps.lowest gap none run whole) above len sorted =
        let cut = lowest-cut Q own rate us ρ x 0 base m gap plan us whole len above run (at-start us) sorted in
        Fill.lowest cut.inner cut.load (power own rate base m gap cut.inner) none
        (run-split base m gap cut.inner run cut.gap_length cut.inner-sorted) cut.loads cut.cost
    gaps-fill ρ x base r m plan us (Gaps.member s l g low gap more parts gaps run whole) above len sorted =
        let cut = member-cut Q own rate us ρ x 0 base s l g low gap plan us whole len (omega arith) gaps run (at-start us) sorted in
        Fill.member s l g cut.lower cut.inner cut.load (power own rate (base + l) g gap cut.inner)
        (charged own rate ρ x base l low cut.lower) more parts
        (gaps-fill ρ x base s l low cut.lower gaps (omega arith) cut.low-length cut.lower-sorted)
        (run-split (base + l) g gap cut.inner run cut.gap_length cut.inner-sorted) cut.loads
        (ap (λ (n : ℕ). charged own rate ρ x base n plan us) parts ∙ cut.cost)
