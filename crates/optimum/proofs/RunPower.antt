-- What a run-shaped plan draws, part by part.
--     charged         what the members of an island are charged, and what the islands in the gaps below them draw
--     charged_parts   that of a lower part, a gap and the member behind it
--     charged_lowest  that of the lowest gap and the member behind it
--     power_top       a run draws what its top island draws by itself, and what is charged
-- Assumes nothing.
use Prim.Native.Nat.{ℕ, zero, suc, ◌+◌, ◌*◌, ◌≤◌, ◌<◌}
use mathlib.Core.Path.{◌≡◌, refl, sym, ap, ◌∙◌}
use mathlib.Core.List.{List, [], ◌∷◌, ◌++◌, append-nil}
use native.Mathlib.Nat.{add-zero, zero-add, suc-add}
use native.Mathlib.Omega.{arith}
use lib.ListN.{length}
use Rattle.model.specs.Plan.{count}
use Rattle.model.specs.Power.{each, held, heaviest, sum, drawn, power}
use Rattle.optimum.specs.Best.{itself}
use Rattle.optimum.proofs.Counts.{single_other}
use Rattle.optimum.proofs.Held.{held_same, held_append, held_absent, sum_append, drawn_is}
use Rattle.optimum.proofs.NamedPlans.{power_same}

each_range : (f : ℕ → ℕ) (base l g : ℕ) → sum (each f base (l + g)) ≡ sum (each f base l) + sum (each f (base + l) g)
unfolding each sum
each_range f base zero g =
    ap (λ (n : ℕ). sum (each f base n)) (zero-add g)
    ∙ ap (λ (n : ℕ). sum (each f n g)) (sym (add-zero base))
    ∙ sym (zero-add (sum (each f (base + 0) g)))
each_range f base (suc l) g =
    let rest : sum (each f (suc base) (l + g)) ≡ sum (each f (suc base) l) + sum (each f (suc base + l) g) =
    each_range f (suc base) l g in
    let place : sum (each f (suc base + l) g) ≡ sum (each f (base + suc l) g) = ap (λ (n : ℕ). sum (each f n g)) (omega arith) in
    ap (λ (n : ℕ). sum (each f base n)) (suc-add l g) ∙ omega arith

module _ (own : ℕ) (rate : ℕ → ℕ) where
  power_range :
      (base l g : ℕ) (plan us : List ℕ)
      → power own rate base (l + g) plan us ≡ power own rate base l plan us + power own rate (base + l) g plan us
  unfolding power
  power_range base l g plan us = each_range (λ z. drawn own rate (held z plan us)) base l g

  power_held :
      (base v : ℕ) (plan us plan' us' : List ℕ)
      → ((z : ℕ) → base < z → z ≤ base + v → held z plan us ≡ held z plan' us')
      → power own rate base v plan us ≡ power own rate base v plan' us'
  power_held base v plan us plan' us' same =
      power_same own rate base v plan us plan' us' (λ z low high. ap (λ (l : List ℕ). drawn own rate l) (same z low high))

  -- ρ for each kHz on the island x, and the islands base + 1 to base + m
  unfoldable pub charged : ℕ → ℕ → ℕ → ℕ → List ℕ → List ℕ → ℕ
  charged ρ x base m plan us = ρ * sum (held x plan us) + power own rate base m plan us

  pub charged_parts :
      (ρ x base l g : ℕ) (low gap : List ℕ) (us vs : List ℕ) (w : ℕ)
      → length low ≡ length us
      → length gap ≡ length vs
      → base + (l + g) < x
      → count x gap ≡ 0
      → ((z : ℕ) → base < z → z ≤ base + l → count z gap ≡ 0)
      → ((z : ℕ) → base + l < z → z ≤ base + (l + g) → count z low ≡ 0)
      → charged ρ x base (l + g) (low ++ (gap ++ (x ∷ []))) (us ++ (vs ++ (w ∷ [])))
      ≡ ρ * w + (power own rate (base + l) g gap vs + charged ρ x base l low us)
  unfolding charged held sum count
  charged_parts ρ x base l g low gap us vs w len len' above no_x gap_free low_free =
      let plan = low ++ (gap ++ (x ∷ [])) in
      let loads = us ++ (vs ++ (w ∷ [])) in
      let parts : (z : ℕ) → held z plan loads ≡ held z low us ++ (held z gap vs ++ held z (x ∷ []) (w ∷ [])) =
      λ z.
      held_append z low (gap ++ (x ∷ [])) us (vs ++ (w ∷ [])) len
      ∙ ap (λ (k : List ℕ). held z low us ++ k) (held_append z gap (x ∷ []) vs (w ∷ []) len') in
      let members : sum (held x plan loads) ≡ sum (held x low us) + w =
      ap (λ (k : List ℕ). sum k)
      (parts x
      ∙ ap (λ (k : List ℕ). held x low us ++ (k ++ held x (x ∷ []) (w ∷ []))) (held_absent x gap vs no_x)
      ∙ ap (λ (k : List ℕ). held x low us ++ k) (held_same x x [] w [] refl))
      ∙ sum_append (held x low us) (w ∷ [])
      ∙ ap (λ (k : ℕ). sum (held x low us) + k) (add-zero w) in
      let lower : power own rate base l plan loads ≡ power own rate base l low us =
      power_held base l plan loads low us
      (λ z b t.
      parts z
      ∙ ap (λ (k : List ℕ). held z low us ++ (k ++ held z (x ∷ []) (w ∷ []))) (held_absent z gap vs (gap_free z b t))
      ∙ ap (λ (k : List ℕ). held z low us ++ k)
      (held_absent z (x ∷ []) (w ∷ []) (single_other x z (λ e. omega arith)))
      ∙ append-nil (held z low us)) in
      let upper : power own rate (base + l) g plan loads ≡ power own rate (base + l) g gap vs =
      power_held (base + l) g plan loads gap vs
      (λ z b t.
      parts z
      ∙ ap (λ (k : List ℕ). k ++ (held z gap vs ++ held z (x ∷ []) (w ∷ []))) (held_absent z low us (low_free z b (omega arith)))
      ∙ ap (λ (k : List ℕ). held z gap vs ++ k)
      (held_absent z (x ∷ []) (w ∷ []) (single_other x z (λ e. omega arith)))
      ∙ append-nil (held z gap vs)) in
      omega (arith, ap (λ (k : ℕ). ρ * k) members, power_range base l g plan loads)

  -- the top island of m + 1 has the number base + v
  pub power_top :
      (base v m t : ℕ) (plan us : List ℕ)
      → v ≡ suc m
      → heaviest (held (base + v) plan us) ≡ t
      → power own rate base v plan us ≡ itself own t + charged (rate t) (base + v) base m plan us
  unfolding charged power each sum
  power_top base v m t plan us more heavy =
      let x = base + v in
      let f : ℕ → ℕ = λ z. drawn own rate (held z plan us) in
      let one : v ≡ m + 1 = omega arith in
      let highest : suc (base + m) ≡ x = omega arith in
      let ranges : power own rate base v plan us ≡ power own rate base m plan us + (f (suc (base + m)) + 0) =
      ap (λ (n : ℕ). power own rate base n plan us) one ∙ power_range base m 1 plan us in
      let top : f (suc (base + m)) ≡ itself own t + rate t * sum (held x plan us) =
      ap f highest
      ∙ drawn_is own rate (held x plan us)
      ∙ ap (λ (n : ℕ). itself own n + rate n * sum (held x plan us)) heavy in
      omega arith

  pub charged_lowest :
      (ρ x base m : ℕ) (gap us : List ℕ) (w : ℕ)
      → length gap ≡ length us
      → base + m < x
      → count x gap ≡ 0
      → charged ρ x base m (gap ++ (x ∷ [])) (us ++ (w ∷ [])) ≡ ρ * w + power own rate base m gap us
  unfolding charged held sum power each count
  charged_lowest ρ x base m gap us w len above no_x =
      let none : 0 + m ≡ m = zero-add m in
      let parts =
      charged_parts ρ x base 0 m [] gap [] us w refl len (omega arith) no_x (λ z b t. absurd (omega arith)) (λ z b t. refl) in
      ap (λ (n : ℕ). charged ρ x base n (gap ++ (x ∷ [])) (us ++ (w ∷ []))) (sym none)
      ∙ parts
      ∙ omega (arith, ap (λ (n : ℕ). power own rate n m gap us) (add-zero base))
