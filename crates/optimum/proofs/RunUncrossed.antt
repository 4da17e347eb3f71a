-- A run is a plan without a crossing.
--     run_uncrossed    a run is full, numbered and without a crossing
-- Assumes nothing.
use Prim.Native.Nat.{ℕ, suc, ◌+◌, ◌≤◌, ◌<◌}
use mathlib.Core.Path.{◌≡◌, sym, ap, subst, ◌∙◌}
use mathlib.Core.Logic.{inl, inr}
use mathlib.Core.List.{List, [], ◌∷◌, ◌++◌, append_assoc}
use native.Mathlib.Decide.{ℕ_discrete, dec_lt}
use native.Mathlib.Omega.{arith}
use lib.ListN.{length}
use Rattle.model.specs.Plan.{count, highest, Numbered}
use Rattle.model.specs.TieRule.{Uncrossed}
use Rattle.optimum.specs.Shape.{Run, Gaps}
use Rattle.optimum.proofs.Counts.{single_other}
use Rattle.optimum.proofs.Untangled.{Untangled, no_crossing, Apart, untangled_member, untangled_lowest}
use Rattle.optimum.proofs.Shapes.{gaps_end, run_inside, run_outside, gaps_outside, run_full}
use Rattle.optimum.proofs.Members.{highest_left, highest_end, highest_length, highest_some, parts_below, parts_behind}

-- the members below and the gap above them have no island in common
member_apart :
    (Q x base s l g : ℕ) (low gap : List ℕ)
    → base + (l + g) < x
    → Gaps Q x base s l low
    → Run Q (base + l) g gap
    → Apart low gap
member_apart Q x base s l g low gap above gaps run z some =
    elim (dec_lt (base + l) z) [
      | yes up ↦
          elim (ℕ_discrete x z) [
            | yes e ↦ run_outside Q (base + l) g gap run z (inr (omega arith))
            | no n ↦ absurd (omega (arith, gaps_outside Q x base s l low gaps z n (inr up)))
          ]
      | no down ↦ run_outside Q (base + l) g gap run z (inl (omega arith))
    ]

mutual
  run_untangled : (Q base v : ℕ) (plan : List ℕ) → Run Q base v plan → Untangled plan
  run_untangled Q base v plan (Run.empty ev ep) = subst (λ (a : List ℕ). Untangled a) (sym ep) (λ x y n h. h)
  run_untangled Q base v plan (Run.top r m er ev gaps) = gaps_untangled Q (base + v) base r m plan gaps (omega arith)

  gaps_untangled : (Q x base r m : ℕ) (plan : List ℕ) → Gaps Q x base r m plan → base + m < x → Untangled plan
  gaps_untangled Q x base r m plan (Gaps.lowest gap er run ep) above =
      subst (λ (a : List ℕ). Untangled a) (sym ep)
      (untangled_lowest x gap (run_untangled Q base m gap run) (run_outside Q base m gap run x (inr above)))
  gaps_untangled Q x base r m plan (Gaps.member s l g low gap er em gaps run ep) above =
      let last = gaps_end Q x base s l low gaps in
      let whole : plan ≡ last.0 ++ (x ∷ []) ++ gap ++ (x ∷ []) =
      ep
      ∙ sym (append_assoc low gap (x ∷ []))
      ∙ ap (λ (b : List ℕ). b ++ gap ++ (x ∷ [])) last.1 in
      let free : Untangled (last.0 ++ (x ∷ [])) =
      subst (λ (a : List ℕ). Untangled a) last.1 (gaps_untangled Q x base s l low gaps (omega arith)) in
      let apart : Apart (last.0 ++ (x ∷ [])) gap =
      subst (λ (a : List ℕ). Apart a gap) last.1 (member_apart Q x base s l g low gap (omega arith) gaps run) in
      subst (λ (a : List ℕ). Untangled a) (sym whole)
      (untangled_member x last.0 gap free (run_untangled Q (base + l) g gap run) apart)

-- an island of a run stands in it: a run that is not empty has Q > 0
run_some : (Q base v : ℕ) (plan : List ℕ) → Run Q base v plan → (z : ℕ) → base < z → z ≤ base + v → 0 < count z plan
run_some Q base v plan (Run.empty ev ep) z low high = absurd (omega arith)
run_some Q base v plan (Run.top r m er ev gaps) z low high =
    omega (arith, run_inside Q base v plan (Run.top r m er ev gaps) z low high)

mutual
  run_numbered : (Q base v : ℕ) (plan : List ℕ) → Run Q base v plan → Numbered base v plan
  run_numbered Q base v plan (Run.empty ev ep) y z low order high = absurd (omega arith)
  run_numbered Q base v plan (Run.top r m er ev gaps) y z low order high =
      elim (ℕ_discrete (base + v) z) [
        | yes e ↦
            let last = gaps_end Q (base + v) base r m plan gaps in
            let top : highest (base + v) plan ≡ suc (length last.0) =
            ap (λ (b : List ℕ). highest (base + v) b) last.1 ∙ highest_end (base + v) last.0 in
            let below : highest y plan ≡ highest y last.0 =
            ap (λ (b : List ℕ). highest y b) last.1
            ∙ highest_left y last.0 ((base + v) ∷ []) (single_other (base + v) y (λ e'. omega arith)) in
            omega (arith, ap (λ (w : ℕ). highest w plan) e, highest_length y last.0)
        | no n ↦ gaps_numbered Q (base + v) base r m plan gaps (omega arith) y z low order (omega arith)
      ]

  gaps_numbered : (Q x base r m : ℕ) (plan : List ℕ) → Gaps Q x base r m plan → base + m < x → Numbered base m plan
  gaps_numbered Q x base r m plan (Gaps.lowest gap er run ep) above y z low order high =
      let at : (w : ℕ) → w ≤ base + m → highest w plan ≡ highest w gap =
      λ w to. ap (λ (b : List ℕ). highest w b) ep ∙ highest_left w gap (x ∷ []) (single_other x w (λ e. omega arith)) in
      omega (arith, at y (omega arith), at z high, run_numbered Q base m gap run y z low order high)
  gaps_numbered Q x base r m plan (Gaps.member s l g low gap er em gaps run ep) above y z bottom order high =
      let behind : (w : ℕ) → base + l < w → w ≤ base + m → highest w plan ≡ length low + highest w gap =
      λ w from to.
      parts_behind w x low gap plan ep (λ e. omega arith) (run_some Q (base + l) g gap run w from (omega arith)) in
      let below : (w : ℕ) → w ≤ base + l → highest w plan ≡ highest w low =
      λ w to. parts_below w x low gap plan ep (λ e. omega arith) (run_outside Q (base + l) g gap run w (inl to)) in
      elim (dec_lt (base + l) z) [
        | yes z_up ↦
            let z_high : highest z plan ≡ length low + highest z gap = behind z z_up high in
            elim (dec_lt (base + l) y) [
              | yes y_up ↦
                  omega (arith, behind y y_up (omega arith), run_numbered Q (base + l) g gap run y z y_up order (omega arith))
              | no y_down ↦
                  let some : 0 < highest z gap = highest_some z gap (run_some Q (base + l) g gap run z z_up (omega arith)) in
                  omega (arith, below y (omega arith), highest_length y low)
            ]
        | no z_down ↦
            let lower : highest y low < highest z low =
            gaps_numbered Q x base s l low gaps (omega arith) y z bottom order (omega arith) in
            omega (arith, below y (omega arith), below z (omega arith))
      ]

pub run_uncrossed : (Q base v : ℕ) (plan : List ℕ) → Run Q base v plan → Uncrossed Q base v plan
run_uncrossed Q base v plan run =
    record {
      full = run_full Q base v plan run;
      numbered = run_numbered Q base v plan run;
      no_crossing = no_crossing plan (run_untangled Q base v plan run);
    }
