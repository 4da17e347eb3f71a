-- A plan without a crossing is a run.
--     top_last         the last position is the top island's
--     uncrossed_run    a full, numbered plan without a crossing has the shape of a run
-- Assumes nothing.
use Prim.Native.Nat.{ℕ, zero, suc, ◌+◌, ◌≤◌, ◌<◌}
use mathlib.Core.Path.{◌≡◌, refl, sym, ap, subst, ◌∙◌}
use mathlib.Core.Logic.{◌⊎◌, inl, inr}
use mathlib.Core.List.{List, [], ◌∷◌, ◌++◌, append_assoc}
use native.Mathlib.Nat.{le_refl, le_dest, lt_of_not-le}
use native.Mathlib.Decide.{ℕ_discrete, dec_lt}
use native.Mathlib.Omega.{arith}
use lib.ListN.{length}
use Rattle.model.specs.Plan.{count, highest, Full, Numbered}
use Rattle.model.specs.TieRule.{Uncrossed}
use Rattle.optimum.specs.Shape.{Run, Gaps}
use Rattle.optimum.proofs.Counts.{count_same, count_append, count_last, single_same, single_other}
use Rattle.optimum.proofs.NamedPlans.{Outside, within_else, named_outside, named_within, named_counted}
use Rattle.optimum.proofs.Shapes.{parts_count}
use Rattle.optimum.proofs.Members.{highest_left, highest_right, highest_length, parts_below, parts_behind}
use Rattle.optimum.proofs.Subsequence.{Has, has_join, some_has}
use Rattle.optimum.proofs.Untangled.{Untangled, untangled, no_crossing, untangled_left, untangled_right}

-- an island with a place behind the top island's last would have the higher highest position
last_alone :
    (Q base v : ℕ) (plan b d : List ℕ)
    → 0 < v
    → Uncrossed Q base v plan
    → plan ≡ b ++ ((base + v) ∷ d)
    → count (base + v) d ≡ 0
    → d ≡ []
last_alone Q base v plan b [] some un ep none = refl
last_alone Q base v plan b (y ∷ d) some un ep none =
    let x : ℕ = base + v in
    let front : List ℕ = b ++ (x ∷ []) in
    let here : 0 < count y (y ∷ d) = omega (arith, count_same y y d refl) in
    let whole : plan ≡ front ++ (y ∷ d) = ep ∙ sym (append_assoc b (x ∷ []) (y ∷ d)) in
    let stands : count y plan ≡ count y front + count y (y ∷ d) = ap (count y) whole ∙ count_append y front (y ∷ d) in
    let y_high : highest y plan ≡ length front + highest y (y ∷ d) =
    ap (λ (l : List ℕ). highest y l) whole ∙ highest_right y front (y ∷ d) here in
    let x_high : highest x plan ≡ highest x front = ap (λ (l : List ℕ). highest x l) whole ∙ highest_left x front (y ∷ d) none in
    let inside : (base < y) × (y ≤ x) = named_within base v plan un.full.named y (omega arith) in
    elim (ℕ_discrete y x) [
      | yes e ↦ absurd (omega (arith, count_same y x d e))
      | no n ↦
          let order : highest y plan < highest x plan = un.numbered y x inside.0 (omega (arith, inside.1)) (omega arith) in
          absurd (omega (arith, highest_length x front))
    ]

pub top_last :
    (Q base v : ℕ) (plan : List ℕ)
    → 0 < Q
    → 0 < v
    → Uncrossed Q base v plan
    → (c : List ℕ) × (plan ≡ c ++ ((base + v) ∷ []))
top_last Q base v plan q_some v_some un =
    let held : count (base + v) plan ≡ Q = un.full.filled (base + v) (omega arith) (omega arith) in
    let cut = count_last (base + v) plan (omega arith) in (
      cut.0,
      cut.2
          ∙ ap (λ (d : List ℕ). cut.0 ++ ((base + v) ∷ d))
          (last_alone Q base v plan cut.0 cut.1 v_some un cut.2 cut.3),
    )

-- what the lowest r + 1 members of the top island x keep, with the m islands in the gaps below them
record Fits (Q x base r m : ℕ) (plan : List ℕ) : Type 0 where
  above : base + m < x
  top : count x plan ≡ suc r
  inside : (z : ℕ) → base < z → z ≤ base + m → count z plan ≡ Q
  outside : (z : ℕ) → ¬ (x ≡ z) → Outside base m z → count z plan ≡ 0
  numbered : Numbered base m plan
  free : Untangled plan

whole_fits : (Q base r m : ℕ) (plan : List ℕ) → suc r ≡ Q → Uncrossed Q base (suc m) plan → Fits Q (base + suc m) base r m plan
whole_fits Q base r m plan er un =
    record {
      above = omega arith;
      top = un.full.filled (base + suc m) (omega arith) (omega arith) ∙ sym er;
      inside = λ z low high. un.full.filled z low (omega arith);
      outside = λ z n out. named_outside base (suc m) plan un.full.named z (wider z n out);
      numbered = λ y z low order high. un.numbered y z low order (omega arith);
      free = untangled plan un.no_crossing;
    }
  where
    wider : (z : ℕ) → ¬ (base + suc m ≡ z) → Outside base m z → Outside base (suc m) z
    wider z n (inl low) = inl low
    wider z n (inr high) = inr (omega arith)

-- islands that stand in a gap have higher numbers than those that do not: they begin behind base + l
threshold :
    (base m : ℕ) (gap : List ℕ)
    → ((y z : ℕ) → base < y → y < z → z ≤ base + m → 0 < count y gap → 0 < count z gap)
    → (l : ℕ)
    × (g : ℕ)
    × (m ≡ l + g)
    × ((z : ℕ) → base < z → z ≤ base + l → count z gap ≡ 0)
    × ((z : ℕ) → base + l < z → z ≤ base + m → 0 < count z gap)
threshold base zero gap up = (0, 0, omega arith, λ z low high. absurd (omega arith), λ z low high. absurd (omega arith))
threshold base (suc m) gap up =
    elim (dec_lt 0 (count (base + suc m) gap)) [
      | yes some ↦
          let rest = threshold base m gap (λ y z low order high. up y z low order (omega arith)) in (
            rest.0,
            suc rest.1,
            omega (arith, rest.2),
            rest.3,
            λ z low high.
                elim (ℕ_discrete (base + suc m) z) [
                  | yes e ↦ subst (λ (w : ℕ). 0 < count w gap) e some
                  | no n ↦ rest.4 z low (omega arith)
                ],
          )
      | no none ↦ (
        suc m,
        0,
        omega arith,
        λ z low high.
            elim (ℕ_discrete (base + suc m) z) [
              | yes e ↦ subst (λ (w : ℕ). count w gap ≡ 0) e (omega arith)
              | no n ↦
                  elim (dec_lt 0 (count z gap)) [
                    | yes some ↦ absurd (omega (arith, up z (base + suc m) low (omega arith) (omega arith) some))
                    | no free ↦ omega arith
                  ]
            ],
        λ z low high. absurd (omega arith),
      )
    ]

-- a plan that ends with x, cut into a lower part, the gap before that x, and x
module _ (Q x base r m : ℕ) (plan low gap : List ℕ) (fits : Fits Q x base r m plan)
    (whole : plan ≡ low ++ (gap ++ (x ∷ []))) (none : count x gap ≡ 0) where
  parts : (z : ℕ) → ¬ (x ≡ z) → count z plan ≡ count z low + count z gap
  parts z n = omega (arith, parts_count z x low gap plan whole, single_other x z n)

  under : (z : ℕ) → z ≤ base + m → ¬ (x ≡ z)
  under z high e = omega (arith, fits.above)

  gap_other : (z : ℕ) → 0 < count z gap → ¬ (x ≡ z)
  gap_other z some e = omega (arith, ap (λ (w : ℕ). count w gap) e)

  gap_within : (z : ℕ) → 0 < count z gap → (base < z) × (z ≤ base + m)
  gap_within z some =
      let n : ¬ (x ≡ z) = gap_other z some in
      within_else base m z (count z gap) (λ out. omega (arith, parts z n, fits.outside z n out)) some

  -- an island with a higher number than one in the gap has its highest position there too
  gap_up : (y z : ℕ) → base < y → y < z → z ≤ base + m → 0 < count y gap → 0 < count z gap
  gap_up y z bottom order high some =
      elim (dec_lt 0 (count z gap)) [
        | yes more ↦ more
        | no free ↦
            let y_high : highest y plan ≡ length low + highest y gap = parts_behind y x low gap plan whole (gap_other y some) some in
            let z_low : highest z plan ≡ highest z low = parts_below z x low gap plan whole (under z high) (omega arith) in
            absurd (omega (arith, fits.numbered y z bottom order high, highest_length z low))
      ]

  gap_uncrossed :
      (b g : ℕ)
      → 0 < Q
      → base ≤ b
      → b + g ≡ base + m
      → ((z : ℕ) → base < z → z ≤ b → count z gap ≡ 0)
      → ((z : ℕ) → b < z → z ≤ base + m → count z low ≡ 0)
      → Uncrossed Q b g gap
  gap_uncrossed b g q_some from to gap_free low_free =
      record {
        full = record { named = named_counted b g gap named; filled = held };
        numbered = λ y z bottom order high.
            let all : highest y plan < highest z plan = fits.numbered y z (omega arith) order (omega arith) in
            omega (arith, behind y bottom (omega arith), behind z (omega arith) high);
        no_crossing = no_crossing gap
            (untangled_left gap (x ∷ [])
            (untangled_right low (gap ++ (x ∷ [])) (subst (λ (a : List ℕ). Untangled a) whole fits.free)));
      }
    where
      held : (z : ℕ) → b < z → z ≤ b + g → count z gap ≡ Q
      held z bottom high =
          let all : count z plan ≡ Q = fits.inside z (omega arith) (omega arith) in
          omega (arith, parts z (under z (omega arith)), low_free z bottom (omega arith))

      behind : (z : ℕ) → b < z → z ≤ b + g → highest z plan ≡ length low + highest z gap
      behind z bottom high =
          parts_behind z x low gap plan whole (under z (omega arith)) (omega (arith, held z bottom high))

      named : (z : ℕ) → 0 < count z gap → (b < z) × (z ≤ b + g)
      named z some =
          let inside : (base < z) × (z ≤ base + m) = gap_within z some in
          (lt_of_not-le (λ down. omega (arith, gap_free z inside.0 down)), omega (arith, inside.1))

  low_fits :
      (s l : ℕ)
      → r ≡ suc s
      → l ≤ m
      → ((z : ℕ) → base < z → z ≤ base + l → count z gap ≡ 0)
      → ((z : ℕ) → base + l < z → z ≤ base + m → count z low ≡ 0)
      → Fits Q x base s l low
  low_fits s l er short gap_free low_free =
      record {
        above = omega (arith, fits.above);
        top = omega (arith, fits.top, parts_count x x low gap plan whole, single_same x x refl);
        inside = λ z bottom high.
            omega (arith, parts z (under z (omega arith)), gap_free z bottom high, fits.inside z bottom (omega arith));
        outside = outside;
        numbered = λ y z bottom order high.
            let all : highest y plan < highest z plan = fits.numbered y z bottom order (omega arith) in
            omega (arith, below y bottom (omega arith), below z (omega arith) high);
        free = untangled_left low (gap ++ (x ∷ [])) (subst (λ (a : List ℕ). Untangled a) whole fits.free);
      }
    where
      below : (z : ℕ) → base < z → z ≤ base + l → highest z plan ≡ highest z low
      below z bottom high = parts_below z x low gap plan whole (under z (omega arith)) (gap_free z bottom high)

      outside : (z : ℕ) → ¬ (x ≡ z) → (z ≤ base) ⊎ (base + l < z) → count z low ≡ 0
      outside z n (inl below) = omega (arith, parts z n, fits.outside z n (inl below))
      outside z n (inr up) =
          elim (dec_lt (base + m) z) [
            | yes over ↦ omega (arith, parts z n, fits.outside z n (inr over))
            | no within ↦ low_free z up (omega arith)
          ]

  -- an island on both sides of a member would cross the top island
  low_none : (c : List ℕ) → low ≡ c ++ (x ∷ []) → (z : ℕ) → 0 < count z gap → count z low ≡ 0
  low_none c ends z some =
      elim (dec_lt 0 (count z c)) [
        | yes more ↦
            let below : Has (z ∷ x ∷ []) low =
            subst (λ (b : List ℕ). Has (z ∷ x ∷ []) b) (sym ends)
            (has_join (z ∷ []) (x ∷ []) c (x ∷ []) (some_has z c more) (inl (refl, tt))) in
            let behind : Has (z ∷ x ∷ []) (gap ++ (x ∷ [])) =
            has_join (z ∷ []) (x ∷ []) gap (x ∷ []) (some_has z gap some) (inl (refl, tt)) in
            absurd
            (fits.free z x (λ e. gap_other z some (sym e))
            (subst (λ (b : List ℕ). Has (z ∷ x ∷ z ∷ x ∷ []) b) (sym whole)
            (has_join (z ∷ x ∷ []) (z ∷ x ∷ []) low (gap ++ (x ∷ [])) below behind)))
        | no free ↦
            ap (count z) ends ∙ omega (arith, count_append z c (x ∷ []), single_other x z (gap_other z some))
      ]

-- the members from the highest down, where every shorter plan is known to be a run
gaps_of :
    (Q x base n : ℕ)
    → 0 < Q
    → ((b w : ℕ) (a : List ℕ) → w ≤ n → Uncrossed Q b w a → Run Q b w a)
    → (r m : ℕ) (plan c : List ℕ)
    → m ≤ n
    → Fits Q x base r m plan
    → plan ≡ c ++ (x ∷ [])
    → Gaps Q x base r m plan
unfolding count
gaps_of Q x base n q_some inner zero m plan c short fits ep =
    let none : count x c ≡ 0 = omega (arith, fits.top, parts_count x x [] c plan ep, single_same x x refl) in
    Gaps.lowest c refl
    (inner base m c short
    (gap_uncrossed Q x base zero m plan [] c fits ep none base m q_some (omega arith) refl
    (λ z low high. absurd (omega arith)) (λ z low high. refl)))
    ep
gaps_of Q x base n q_some inner (suc s) m plan c short fits ep =
    let some : 0 < count x c = omega (arith, fits.top, parts_count x x [] c plan ep, single_same x x refl) in
    let cut = count_last x c some in
    let low : List ℕ = cut.0 ++ (x ∷ []) in
    let gap : List ℕ = cut.1 in
    let whole : plan ≡ low ++ (gap ++ (x ∷ [])) =
    ep
    ∙ ap (λ (b : List ℕ). b ++ (x ∷ [])) cut.2
    ∙ append_assoc cut.0 (x ∷ gap) (x ∷ [])
    ∙ sym (append_assoc cut.0 (x ∷ []) (gap ++ (x ∷ []))) in
    let found = threshold base m gap (gap_up Q x base (suc s) m plan low gap fits whole cut.3) in
    let l : ℕ = found.0 in
    let g : ℕ = found.1 in
    let sum : m ≡ l + g = found.2 in
    let low_free : (z : ℕ) → base + l < z → z ≤ base + m → count z low ≡ 0 =
    λ z up high. low_none Q x base (suc s) m plan low gap fits whole cut.3 cut.0 refl z (found.4 z up high) in
    let below : Fits Q x base s l low =
    low_fits Q x base (suc s) m plan low gap fits whole cut.3 s l refl (omega arith) found.3 low_free in
    let behind : Uncrossed Q (base + l) g gap =
    gap_uncrossed Q x base (suc s) m plan low gap fits whole cut.3 (base + l) g q_some (omega arith) (omega arith) found.3
    low_free in
    let lower : Gaps Q x base s l low = gaps_of Q x base n q_some inner s l low cut.0 (omega arith) below refl in
    let run : Run Q (base + l) g gap = inner (base + l) g gap (omega arith) behind in
    Gaps.member s l g low gap refl sum lower run whole

-- a full plan of no islands has no positions
full_empty : (Q base : ℕ) (plan : List ℕ) → Full Q base 0 plan → plan ≡ []
full_empty Q base [] full = refl
full_empty Q base (y ∷ a) full =
    absurd (omega (arith, (full.named 0 (omega arith)).0, (full.named 0 (omega arith)).1))

run_of : (n Q base v : ℕ) (plan : List ℕ) → v ≤ n → 0 < Q → Uncrossed Q base v plan → Run Q base v plan
run_of zero Q base zero plan short q_some un = Run.empty refl (full_empty Q base plan un.full)
run_of zero Q base (suc m) plan short q_some un = absurd (omega arith)
run_of (suc n) Q base zero plan short q_some un = Run.empty refl (full_empty Q base plan un.full)
run_of (suc n) Q base (suc m) plan short q_some un =
    let last = top_last Q base (suc m) plan q_some (omega arith) un in
    let less = le_dest q_some in
    let er : suc less.0 ≡ Q = omega (arith, less.1) in
    let gaps : Gaps Q (base + suc m) base less.0 m plan =
    gaps_of Q (base + suc m) base n q_some (λ b w a h part. run_of n Q b w a h q_some part) less.0 m plan last.0
    (omega arith) (whole_fits Q base less.0 m plan er un) last.1 in
    Run.top less.0 m er refl gaps

pub uncrossed_run : (Q base v : ℕ) (plan : List ℕ) → 0 < Q → Uncrossed Q base v plan → Run Q base v plan
uncrossed_run Q base v plan q_some un = run_of v Q base v plan (le_refl v) q_some un
