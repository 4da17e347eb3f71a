-- A plan without a crossing is fixed by its highest positions: they tell how many islands stand in each gap.
--     uncrossed_same    two plans without a crossing that have the same highest positions are one
-- Assumes nothing.
use Prim.Native.Nat.{ℕ, suc, ◌+◌, ◌-◌, ◌*◌, ◌≤◌, ◌<◌}
use mathlib.Core.Path.{◌≡◌, refl, sym, ap, subst, ◌∙◌}
use mathlib.Core.Logic.{inl}
use mathlib.Core.List.{List, [], ◌∷◌, ◌++◌}
use native.Mathlib.Nat.{add-mul}
use native.Mathlib.Decide.{ℕ_discrete, dec_lt}
use native.Mathlib.Omega.{arith}
use lib.ListN.{length, length-append}
use Rattle.model.specs.Plan.{count, highest}
use Rattle.model.specs.TieRule.{Uncrossed}
use Rattle.optimum.specs.Shape.{Run, Gaps}
use Rattle.optimum.proofs.Shapes.{run_length, gaps_length, run_inside, run_outside, gaps_end}
use Rattle.optimum.proofs.Members.{highest_end, highest_length, parts_below, parts_behind}
use Rattle.optimum.proofs.UncrossedRun.{uncrossed_run}

module _ (Q : ℕ) (cores : 0 < Q) where
  -- the highest positions of the islands in a gap
  gap_highest :
      (x base l g k : ℕ) (low gap plan : List ℕ)
      → plan ≡ low ++ (gap ++ (x ∷ []))
      → Run Q (base + l) g gap
      → base + (l + g) < x
      → 0 < k
      → k ≤ g
      → highest (base + l + k) plan ≡ length low + highest (base + l + k) gap
  gap_highest x base l g k low gap plan whole run above some up =
      parts_behind (base + l + k) x low gap plan whole (λ e. omega arith)
      (omega (arith, run_inside Q (base + l) g gap run (base + l + k) (omega arith) (omega arith)))

  -- the k · Q positions of the islands up to base + k stand at the highest one of base + k or below
  mutual
    unfolding count

    run_above :
        (base v : ℕ) (plan : List ℕ) → Run Q base v plan → (k : ℕ) → 0 < k → k ≤ v → k * Q ≤ highest (base + k) plan
    run_above base v plan (Run.empty none whole) k some up = absurd (omega arith)
    run_above base v plan (Run.top r m size more gaps) k some up =
        elim (ℕ_discrete v k) [
          | yes e ↦
              let end = gaps_end Q (base + v) base r m plan gaps in
              let top : highest (base + v) plan ≡ suc (length end.0) =
              ap (λ (b : List ℕ). highest (base + v) b) end.1 ∙ highest_end (base + v) end.0 in
              let all : length plan ≡ suc (length end.0) =
              ap (λ (b : List ℕ). length b) end.1 ∙ omega (arith, length-append end.0 ((base + v) ∷ [])) in
              subst (λ (n : ℕ). n * Q ≤ highest (base + n) plan) e
              (omega (arith, run_length Q base v plan (Run.top r m size more gaps)))
          | no n ↦ gaps_above (base + v) base r m plan gaps (omega arith) k some (omega arith)
        ]

    gaps_above :
        (x base r m : ℕ) (plan : List ℕ)
        → Gaps Q x base r m plan
        → base + m < x
        → (k : ℕ)
        → 0 < k
        → k ≤ m
        → k * Q ≤ highest (base + k) plan
    gaps_above x base r m plan (Gaps.lowest gap none run whole) above k some up =
        omega (
          arith,
          run_above base m gap run k some up,
          parts_below (base + k) x gap [] plan whole (λ e. omega arith) refl,
        )
    gaps_above x base r m plan (Gaps.member s l g low gap more parts gaps run whole) above k some up =
        elim (dec_lt l k) [
          | yes high ↦
              let j = k - l in
              let named : base + k ≡ base + l + j = omega arith in
              let split : k ≡ l + j = omega arith in
              let times : k * Q ≡ l * Q + j * Q = ap (λ (n : ℕ). n * Q) split ∙ add-mul l j Q in
              rw named
              (omega (
                arith,
                run_above (base + l) g gap run j (omega arith) (omega arith),
                gaps_length Q x base s l low gaps,
                gap_highest x base l g j low gap plan whole run (omega arith) (omega arith) (omega arith),
              ))
          | no down ↦
              omega (
                arith,
                gaps_above x base s l low gaps (omega arith) k some (omega arith),
                parts_below (base + k) x low gap plan whole (λ e. omega arith)
                    (run_outside Q (base + l) g gap run (base + k) (inl (omega arith))),
              )
        ]

  -- an island that stands in the gap of the first plan and below that of the second would have a higher highest position in the first
  gap_no_less :
      (x base s l g l' g' : ℕ) (low gap a low' gap' b : List ℕ)
      → a ≡ low ++ (gap ++ (x ∷ []))
      → b ≡ low' ++ (gap' ++ (x ∷ []))
      → Gaps Q x base s l low
      → Run Q (base + l) g gap
      → Gaps Q x base s l' low'
      → Run Q (base + l') g' gap'
      → l + g ≡ l' + g'
      → base + (l + g) < x
      → ((z : ℕ) → base < z → z ≤ base + (l + g) → highest z a ≡ highest z b)
      → l' ≤ l
  unfolding count
  gap_no_less x base s l g l' g' low gap a low' gap' b ea eb lower run lower' run' parts above same =
      elim (dec_lt l l') [
        | yes less ↦
            let j = l' - l in
            let split : l' ≡ l + j = omega arith in
            let z = base + l + j in
            let times : l' * Q ≡ l * Q + j * Q = ap (λ (n : ℕ). n * Q) split ∙ add-mul l j Q in
            let end = gaps_end Q x base s l' low' lower' in
            let all : length low' ≡ suc (length end.0) =
            ap (λ (c : List ℕ). length c) end.1 ∙ omega (arith, length-append end.0 (x ∷ [])) in
            absurd
            (omega (
              arith,
              gaps_length Q x base s l low lower,
              gaps_length Q x base s l' low' lower',
              run_above (base + l) g gap run j (omega arith) (omega arith),
              gap_highest x base l g j low gap a ea run above (omega arith) (omega arith),
              same z (omega arith) (omega arith),
              parts_below z x low' gap' b eb (λ e. omega arith) (run_outside Q (base + l') g' gap' run' z (inl (omega arith))),
              parts_below z x end.0 [] low' end.1 (λ e. omega arith) refl,
              highest_length z end.0,
            ))
        | no more ↦ omega arith
      ]

  mutual
    unfolding count

    run_fixed :
        (base v : ℕ) (a b : List ℕ)
        → Run Q base v a
        → Run Q base v b
        → ((z : ℕ) → base < z → z ≤ base + v → highest z a ≡ highest z b)
        → a ≡ b
    run_fixed base v a b (Run.empty none ea) (Run.empty none' eb) same = ea ∙ sym eb
    run_fixed base v a b (Run.empty none ea) (Run.top r m size more gaps) same = absurd (omega arith)
    run_fixed base v a b (Run.top r m size more gaps) (Run.empty none eb) same = absurd (omega arith)
    run_fixed base v a b (Run.top r m size more gaps) (Run.top r' m' size' more' gaps') same =
        gaps_fixed (base + v) base r m r' m' a b gaps gaps' (omega arith) (omega arith) (omega arith)
        (λ z low high. same z low (omega arith))

    gaps_fixed :
        (x base r m r' m' : ℕ) (a b : List ℕ)
        → Gaps Q x base r m a
        → Gaps Q x base r' m' b
        → r ≡ r'
        → m ≡ m'
        → base + m < x
        → ((z : ℕ) → base < z → z ≤ base + m → highest z a ≡ highest z b)
        → a ≡ b
    gaps_fixed x base r m r' m' a b (Gaps.lowest gap none run ea) (Gaps.lowest gap' none' run' eb) er em above same =
        let run'' : Run Q base m gap' = subst (λ (n : ℕ). Run Q base n gap') (sym em) run' in
        let gaps : gap ≡ gap' =
        run_fixed base m gap gap' run run''
        (λ z low high.
        omega (
          arith,
          same z low high,
          parts_below z x gap [] a ea (λ e. omega arith) refl,
          parts_below z x gap' [] b eb (λ e. omega arith) refl,
        )) in
        ea ∙ ap (λ (c : List ℕ). c ++ (x ∷ [])) gaps ∙ sym eb
    gaps_fixed x base r m r' m' a b (Gaps.lowest gap none run ea) (Gaps.member s' l' g' low' gap' more' parts' lower' run' eb) er em
        above same = absurd (omega arith)
    gaps_fixed x base r m r' m' a b (Gaps.member s l g low gap more parts lower run ea) (Gaps.lowest gap' none' run' eb) er em above
        same = absurd (omega arith)
    gaps_fixed x base r m r' m' a b (Gaps.member s l g low gap more parts lower run ea)
        (Gaps.member s' l' g' low' gap' more' parts' lower' run' eb) er em above same =
        let es : s' ≡ s = omega arith in
        let lower'' : Gaps Q x base s l' low' = subst (λ (n : ℕ). Gaps Q x base n l' low') es lower' in
        let up : l' ≤ l =
        gap_no_less x base s l g l' g' low gap a low' gap' b ea eb lower run lower'' run' (omega arith) (omega arith)
        (λ z bottom high. same z bottom (omega arith)) in
        let down : l ≤ l' =
        gap_no_less x base s l' g' l g low' gap' b low gap a eb ea lower'' run' lower run (omega arith) (omega arith)
        (λ z bottom high. sym (same z bottom (omega arith))) in
        let el : l' ≡ l = omega arith in
        let eg : g' ≡ g = omega arith in
        let run'' : Run Q (base + l) g gap' =
        subst (λ (n : ℕ). Run Q (base + n) g gap') el (subst (λ (n : ℕ). Run Q (base + l') n gap') eg run') in
        let lows : low ≡ low' =
        gaps_fixed x base s l s l' low low' lower lower'' refl (sym el) (omega arith)
        (λ z bottom high.
        omega (
          arith,
          same z bottom (omega arith),
          parts_below z x low gap a ea (λ e. omega arith) (run_outside Q (base + l) g gap run z (inl high)),
          parts_below z x low' gap' b eb (λ e. omega arith) (run_outside Q (base + l) g gap' run'' z (inl high)),
        )) in
        let gaps : gap ≡ gap' =
        run_fixed (base + l) g gap gap' run run''
        (λ z bottom high.
        omega (
          arith,
          same z (omega arith) (omega arith),
          ap (λ (c : List ℕ). length c) lows,
          parts_behind z x low gap a ea (λ e. omega arith) (omega (arith, run_inside Q (base + l) g gap run z bottom high)),
          parts_behind z x low' gap' b eb (λ e. omega arith) (omega (arith, run_inside Q (base + l) g gap' run'' z bottom high)),
        )) in
        ea
        ∙ ap (λ (c : List ℕ). c ++ (gap ++ (x ∷ []))) lows
        ∙ ap (λ (c : List ℕ). low' ++ (c ++ (x ∷ []))) gaps
        ∙ sym eb

pub uncrossed_same :
    (Q base v : ℕ) (a b : List ℕ)
    → 0 < Q
    → Uncrossed Q base v a
    → Uncrossed Q base v b
    → ((z : ℕ) → base < z → z ≤ base + v → highest z a ≡ highest z b)
    → a ≡ b
uncrossed_same Q base v a b some un un' same =
    run_fixed Q some base v a b (uncrossed_run Q base v a some un) (uncrossed_run Q base v b some un') same
