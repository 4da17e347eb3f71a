-- The loads of a run-shaped plan, cut where the plan is: what stands under the parts of a plan of members and gaps, and what they cost.
--     Lowest, lowest_cut    the lowest member with its gap
--     Member, member_cut    a member with its gap and all below it
-- Assumes nothing.
use Prim.Native.Nat.{ℕ, suc, ◌+◌, ◌*◌, ◌<◌}
use mathlib.Core.Path.{◌≡◌, refl, sym, ap, ◌∙◌, subst}
use mathlib.Core.Logic.{inl, inr}
use mathlib.Core.List.{List, [], ◌∷◌, ◌++◌}
use native.Mathlib.Nat.{add-mul}
use native.Mathlib.Omega.{arith}
use lib.ListN.{length, get_or}
use Rattle.model.specs.Power.{power}
use Rattle.optimum.specs.Loads.{Sorted, At}
use Rattle.optimum.specs.Best.{load_at}
use Rattle.optimum.specs.Shape.{Run, Gaps}
use Rattle.optimum.proofs.Lists.{cut_at, cut_end}
use Rattle.optimum.proofs.BestSplit.{at_front, at_behind, at_member}
use Rattle.optimum.proofs.Shapes.{run_length, gaps_length, run_outside, gaps_outside}
use Rattle.optimum.proofs.SortedLoads.{sorted_front, sorted_back}
use Rattle.optimum.proofs.RunPower.{charged, charged_parts, charged_lowest}

module _ (Q own : ℕ) (rate : ℕ → ℕ) (ws : List ℕ) where
  -- the loads us begin at place i of ws
  pub record Lowest (ρ x i base m : ℕ) (gap plan us : List ℕ) : Type 0 where
    pub inner : List ℕ
    pub load : ℕ
    pub loads : us ≡ inner ++ (load ∷ [])
    pub gap_length : length gap ≡ length inner
    pub inner_length : length inner ≡ m * Q
    pub inner_at : At ws i inner
    pub inner_sorted : Sorted inner
    pub load_is : load_at Q ws i m 0 ≡ load
    pub cost : charged own rate ρ x base m plan us ≡ ρ * load + power own rate base m gap inner

  lowest_parts :
      (ρ x i base m : ℕ) (gap inner : List ℕ) (load : ℕ)
      → length gap ≡ length inner
      → base + m < x
      → Run Q base m gap
      → At ws i (inner ++ (load ∷ []))
      → Sorted (inner ++ (load ∷ []))
      → Lowest ρ x i base m gap (gap ++ (x ∷ [])) (inner ++ (load ∷ []))
  unfolding load_at
  lowest_parts ρ x i base m gap inner load len above run at sorted =
      let len' : length inner ≡ m * Q = sym len ∙ run_length Q base m gap run in
      record {
        inner = inner;
        load = load;
        loads = refl;
        gap_length = len;
        inner_length = len';
        inner_at = at_front ws i inner (load ∷ []) at;
        inner_sorted = sorted_front inner (load ∷ []) sorted;
        load_is = at_member ws i inner load (m * Q + 0) at (omega arith);
        cost = charged_lowest own rate ρ x base m gap inner load len above (run_outside Q base m gap run x (inr above));
      }

  pub lowest_cut :
      (ρ x i base m : ℕ) (gap plan us : List ℕ)
      → plan ≡ gap ++ (x ∷ [])
      → length plan ≡ length us
      → base + m < x
      → Run Q base m gap
      → At ws i us
      → Sorted us
      → Lowest ρ x i base m gap plan us
  lowest_cut ρ x i base m gap plan us whole len above run at sorted =
      let cut = cut_end gap x us (ap (λ (l : List ℕ). length l) (sym whole) ∙ len) in
      subst (λ (l : List ℕ). Lowest ρ x i base m gap l us) (sym whole)
      (subst (λ (l : List ℕ). Lowest ρ x i base m gap (gap ++ (x ∷ [])) l) (sym cut.2)
      (lowest_parts ρ x i base m gap cut.0 cut.1 cut.3 above run (subst (λ (l : List ℕ). At ws i l) cut.2 at)
      (subst (λ (l : List ℕ). Sorted l) cut.2 sorted)))

  -- below the member a gap of g islands, below that s + 1 members with l islands in their gaps
  pub record Member (ρ x i base s l g : ℕ) (low gap plan us : List ℕ) : Type 0 where
    pub lower : List ℕ
    pub inner : List ℕ
    pub load : ℕ
    pub loads : us ≡ lower ++ (inner ++ (load ∷ []))
    pub low_length : length low ≡ length lower
    pub gap_length : length gap ≡ length inner
    pub lower_length : length lower ≡ l * Q + suc s
    pub inner_length : length inner ≡ g * Q
    pub lower_at : At ws i lower
    pub inner_at : At ws (i + (l * Q + suc s)) inner
    pub lower_sorted : Sorted lower
    pub inner_sorted : Sorted inner
    pub load_is : load_at Q ws i (l + g) (suc s) ≡ load
    pub cost :
        charged own rate ρ x base (l + g) plan us
        ≡ ρ * load + (power own rate (base + l) g gap inner + charged own rate ρ x base l low lower)

  member_parts :
      (ρ x i base s l g : ℕ) (low gap lower inner : List ℕ) (load : ℕ)
      → length low ≡ length lower
      → length gap ≡ length inner
      → base + (l + g) < x
      → Gaps Q x base s l low
      → Run Q (base + l) g gap
      → At ws i (lower ++ (inner ++ (load ∷ [])))
      → Sorted (lower ++ (inner ++ (load ∷ [])))
      → Member ρ x i base s l g low gap (low ++ (gap ++ (x ∷ []))) (lower ++ (inner ++ (load ∷ [])))
  unfolding load_at
  member_parts ρ x i base s l g low gap lower inner load len len' above gaps run at sorted =
      let low_places : length lower ≡ l * Q + suc s = sym len ∙ gaps_length Q x base s l low gaps in
      let gap_places : length inner ≡ g * Q = sym len' ∙ run_length Q (base + l) g gap run in
      let behind : At ws (i + (l * Q + suc s)) (inner ++ (load ∷ [])) =
      subst (λ (n : ℕ). At ws (i + n) (inner ++ (load ∷ []))) low_places
      (at_behind ws i lower (inner ++ (load ∷ [])) at) in
      let place : i + ((l + g) * Q + suc s) ≡ i + (l * Q + suc s) + g * Q = omega (arith, add-mul l g Q) in
      record {
        lower = lower;
        inner = inner;
        load = load;
        loads = refl;
        low_length = len;
        gap_length = len';
        lower_length = low_places;
        inner_length = gap_places;
        lower_at = at_front ws i lower (inner ++ (load ∷ [])) at;
        inner_at = at_front ws (i + (l * Q + suc s)) inner (load ∷ []) behind;
        lower_sorted = sorted_front lower (inner ++ (load ∷ [])) sorted;
        inner_sorted = sorted_front inner (load ∷ []) (sorted_back lower (inner ++ (load ∷ [])) sorted);
        load_is =
            ap (λ (n : ℕ). get_or ws n 0) place ∙ at_member ws (i + (l * Q + suc s)) inner load (g * Q) behind gap_places;
        cost =
            charged_parts own rate ρ x base l g low gap lower inner load len len' above
            (run_outside Q (base + l) g gap run x (inr (omega arith)))
            (λ z b t. run_outside Q (base + l) g gap run z (inl t))
            (λ z b t. gaps_outside Q x base s l low gaps z (λ e. omega arith) (inr b));
      }

  pub member_cut :
      (ρ x i base s l g : ℕ) (low gap plan us : List ℕ)
      → plan ≡ low ++ (gap ++ (x ∷ []))
      → length plan ≡ length us
      → base + (l + g) < x
      → Gaps Q x base s l low
      → Run Q (base + l) g gap
      → At ws i us
      → Sorted us
      → Member ρ x i base s l g low gap plan us
  member_cut ρ x i base s l g low gap plan us whole len above gaps run at sorted =
      let first = cut_at low (gap ++ (x ∷ [])) us (ap (λ (k : List ℕ). length k) (sym whole) ∙ len) in
      let second = cut_end gap x first.1 first.4 in
      let loads : us ≡ first.0 ++ (second.0 ++ (second.1 ∷ [])) =
      first.2 ∙ ap (λ (k : List ℕ). first.0 ++ k) second.2 in
      subst (λ (k : List ℕ). Member ρ x i base s l g low gap k us) (sym whole)
      (subst (λ (k : List ℕ). Member ρ x i base s l g low gap (low ++ (gap ++ (x ∷ []))) k) (sym loads)
      (member_parts ρ x i base s l g low gap first.0 second.0 second.1 first.3 second.3 above gaps run
      (subst (λ (k : List ℕ). At ws i k) loads at) (subst (λ (k : List ℕ). Sorted k) loads sorted)))
