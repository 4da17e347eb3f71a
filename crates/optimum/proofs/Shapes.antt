-- What a run and the gaps of a top island hold.
--     parts_count                  the count in a lower part, a gap and the member behind it
--     run_length, gaps_length      how many positions
--     run_inside, run_outside      every island of a run holds Q positions, no other holds any
--     gaps_top                     the top island holds its r + 1 members
--     gaps_outside                 no island but the top one and those in the gaps holds any
--     gaps_end                     the top island stands last
--     run_full                     a run is a full plan of its islands
-- Assumes nothing.
use Prim.Native.Nat.{ℕ, suc, ◌+◌, ◌*◌, ◌≤◌, ◌<◌}
use mathlib.Core.Path.{◌≡◌, refl, sym, ap, ◌∙◌}
use mathlib.Core.Logic.{inl, inr}
use mathlib.Core.List.{List, [], ◌∷◌, ◌++◌, append_assoc}
use native.Mathlib.Nat.{add-mul}
use native.Mathlib.Decide.{ℕ_discrete, dec_lt}
use native.Mathlib.Omega.{arith}
use lib.ListN.{length, length-append}
use Rattle.model.specs.Plan.{count, Full}
use Rattle.optimum.specs.Shape.{Run, Gaps}
use Rattle.optimum.proofs.NamedPlans.{Outside, within_else, named_counted}
use Rattle.optimum.proofs.Counts.{count_append, single_same, single_other}

-- the members' plan is a lower part, a gap and the member behind it
parts_length : (x : ℕ) (low gap plan : List ℕ) → plan ≡ low ++ (gap ++ (x ∷ [])) → length plan ≡ length low + suc (length gap)
parts_length x low gap plan ep =
    ap (λ (l : List ℕ). length l) ep ∙ omega (arith, length-append low (gap ++ (x ∷ [])), length-append gap (x ∷ []))

pub parts_count :
    (z x : ℕ) (low gap plan : List ℕ)
    → plan ≡ low ++ (gap ++ (x ∷ []))
    → count z plan ≡ count z low + (count z gap + count z (x ∷ []))
parts_count z x low gap plan ep =
    ap (count z) ep ∙ omega (arith, count_append z low (gap ++ (x ∷ [])), count_append z gap (x ∷ []))

mutual
  pub run_length : (Q base v : ℕ) (plan : List ℕ) → Run Q base v plan → length plan ≡ v * Q
  run_length Q base v plan (Run.empty ev ep) = ap (λ (l : List ℕ). length l) ep ∙ rw ev (omega arith)
  run_length Q base v plan (Run.top r m er ev gaps) =
      let times : v * Q ≡ m * Q + Q = ap (λ (n : ℕ). n * Q) ev ∙ omega arith in
      omega (arith, gaps_length Q (base + v) base r m plan gaps)

  pub gaps_length : (Q x base r m : ℕ) (plan : List ℕ) → Gaps Q x base r m plan → length plan ≡ m * Q + suc r
  gaps_length Q x base r m plan (Gaps.lowest gap er run ep) =
      omega (arith, parts_length x [] gap plan ep, run_length Q base m gap run)
  gaps_length Q x base r m plan (Gaps.member s l g low gap er em gaps run ep) =
      let times : m * Q ≡ l * Q + g * Q = ap (λ (n : ℕ). n * Q) em ∙ add-mul l g Q in
      omega (arith, parts_length x low gap plan ep, gaps_length Q x base s l low gaps, run_length Q (base + l) g gap run)

mutual
  unfolding count

  pub run_outside :
      (Q base v : ℕ) (plan : List ℕ)
      → Run Q base v plan
      → (z : ℕ)
      → Outside base v z
      → count z plan ≡ 0
  run_outside Q base v plan (Run.empty ev ep) z out = ap (count z) ep
  run_outside Q base v plan (Run.top r m er ev gaps) z (inl below) =
      gaps_outside Q (base + v) base r m plan gaps z (λ e. omega arith) (inl below)
  run_outside Q base v plan (Run.top r m er ev gaps) z (inr above) =
      gaps_outside Q (base + v) base r m plan gaps z (λ e. omega arith) (inr (omega arith))

  pub gaps_outside :
      (Q x base r m : ℕ) (plan : List ℕ)
      → Gaps Q x base r m plan
      → (z : ℕ)
      → ¬ (x ≡ z)
      → Outside base m z
      → count z plan ≡ 0
  gaps_outside Q x base r m plan (Gaps.lowest gap er run ep) z n out =
      omega (arith, parts_count z x [] gap plan ep, single_other x z n, run_outside Q base m gap run z out)
  gaps_outside Q x base r m plan (Gaps.member s l g low gap er em gaps run ep) z n (inl below) =
      let gap_none : count z gap ≡ 0 = run_outside Q (base + l) g gap run z (inl (omega arith)) in
      omega (arith, parts_count z x low gap plan ep, single_other x z n, gaps_outside Q x base s l low gaps z n (inl below))
  gaps_outside Q x base r m plan (Gaps.member s l g low gap er em gaps run ep) z n (inr above) =
      let gap_none : count z gap ≡ 0 = run_outside Q (base + l) g gap run z (inr (omega arith)) in
      let low_none : count z low ≡ 0 = gaps_outside Q x base s l low gaps z n (inr (omega arith)) in
      omega (arith, parts_count z x low gap plan ep, single_other x z n)

pub gaps_top :
    (Q x base r m : ℕ) (plan : List ℕ)
    → Gaps Q x base r m plan
    → base + m < x
    → count x plan ≡ suc r
unfolding count
gaps_top Q x base r m plan (Gaps.lowest gap er run ep) above =
    omega (arith, parts_count x x [] gap plan ep, single_same x x refl, run_outside Q base m gap run x (inr above))
gaps_top Q x base r m plan (Gaps.member s l g low gap er em gaps run ep) above =
    let gap_none : count x gap ≡ 0 = run_outside Q (base + l) g gap run x (inr (omega arith)) in
    let below : count x low ≡ suc s = gaps_top Q x base s l low gaps (omega arith) in
    omega (arith, parts_count x x low gap plan ep, single_same x x refl)

mutual
  unfolding count

  pub run_inside :
      (Q base v : ℕ) (plan : List ℕ)
      → Run Q base v plan
      → (z : ℕ)
      → base < z
      → z ≤ base + v
      → count z plan ≡ Q
  run_inside Q base v plan (Run.empty ev ep) z low high = absurd (omega arith)
  run_inside Q base v plan (Run.top r m er ev gaps) z low high =
      elim (ℕ_discrete (base + v) z) [
        | yes e ↦ ap (λ (y : ℕ). count y plan) (sym e) ∙ gaps_top Q (base + v) base r m plan gaps (omega arith) ∙ er
        | no n ↦ gaps_inside Q (base + v) base r m plan gaps (omega arith) z low (omega arith)
      ]

  gaps_inside :
      (Q x base r m : ℕ) (plan : List ℕ)
      → Gaps Q x base r m plan
      → base + m < x
      → (z : ℕ)
      → base < z
      → z ≤ base + m
      → count z plan ≡ Q
  gaps_inside Q x base r m plan (Gaps.lowest gap er run ep) above z low high =
      let other : count z (x ∷ []) ≡ 0 = single_other x z (λ e. omega arith) in
      omega (arith, parts_count z x [] gap plan ep, run_inside Q base m gap run z low high)
  gaps_inside Q x base r m plan (Gaps.member s l g low gap er em gaps run ep) above z bottom high =
      let other : count z (x ∷ []) ≡ 0 = single_other x z (λ e. omega arith) in
      elim (dec_lt (base + l) z) [
        | yes up ↦
            let low_none : count z low ≡ 0 = gaps_outside Q x base s l low gaps z (λ e. omega arith) (inr up) in
            let held : count z gap ≡ Q = run_inside Q (base + l) g gap run z up (omega arith) in
            omega (arith, parts_count z x low gap plan ep)
        | no down ↦
            let gap_none : count z gap ≡ 0 = run_outside Q (base + l) g gap run z (inl (omega arith)) in
            let held : count z low ≡ Q = gaps_inside Q x base s l low gaps (omega arith) z bottom (omega arith) in
            omega (arith, parts_count z x low gap plan ep)
      ]

pub run_full : (Q base v : ℕ) (plan : List ℕ) → Run Q base v plan → Full Q base v plan
run_full Q base v plan run =
    record {
      named = named_counted base v plan (λ z some. within_else base v z (count z plan) (run_outside Q base v plan run z) some);
      filled = run_inside Q base v plan run;
    }

pub gaps_end : (Q x base r m : ℕ) (plan : List ℕ) → Gaps Q x base r m plan → (c : List ℕ) × (plan ≡ c ++ (x ∷ []))
gaps_end Q x base r m plan (Gaps.lowest gap er run ep) = (gap, ep)
gaps_end Q x base r m plan (Gaps.member s l g low gap er em gaps run ep) =
    (low ++ gap, ep ∙ sym (append_assoc low gap (x ∷ [])))
