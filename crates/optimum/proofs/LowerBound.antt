-- The lower bound: every fair assignment of sorted loads costs at least as much as some split of them.
--     fair-full, fair-named    an island of the list has Q positions, and one that has any is of the list
--     lower-bound    over any list of islands, each with a figure that is the heaviest load on it
-- The first island to hold its Q-th position is gathered, its positions are taken out, and put back into a split of the rest.
-- Assumes nothing.
use Prim.Native.Nat.{ℕ, zero, suc, ◌+◌, ◌*◌, max, ◌≤◌, ◌<◌, zero-le}
use mathlib.Core.Path.{◌≡◌, refl, sym, ap, ◌∙◌, subst}
use mathlib.Core.List.{List, [], ◌∷◌, ◌++◌, append_assoc, append-nil}
use native.Mathlib.Nat.{add-zero, one-mul, not-suc-le-zero, suc-ne-zero, le_of_eq, le_trans}
use native.Mathlib.Nat.{lt_of_lt_of_le, zero-lt-suc, max-zero, min-eq_left}
use native.Mathlib.Decide.{ℕ_discrete, dec_lt}
use native.Mathlib.Omega.{arith}
use lib.ListN.{length, take, drop, length-append, length-take, length-drop, take-append-drop}
use Rattle.model.specs.Plan.{count}
use Rattle.model.specs.Power.{held, heaviest, sum}
use Rattle.model.specs.Refusals.{last_of}
use Rattle.optimum.specs.Loads.{AtLeast, AtMost, Sorted, NeverFalls}
use Rattle.optimum.specs.Best.{itself}
use Rattle.optimum.specs.Split.{Split}
use Rattle.optimum.specs.Fair.{Fair, over}
use Rattle.optimum.proofs.Counts.{count_same, count-append, single-same, single-other}
use Rattle.optimum.proofs.Held.{held-append, held-absent, heaviest-append}
use Rattle.optimum.proofs.Lists.{cut_at, cut-end, last-append}
use Rattle.optimum.proofs.Spread.{weighed, weighed-append}
use Rattle.optimum.proofs.Splits.{block, insertion}
use Rattle.optimum.proofs.SortedLoads.{sorted_front, sorted_back, sorted-taken-out, most-taken-out, heaviest-at-least}
use Rattle.optimum.proofs.SortedLoads.{heaviest-at-most, heaviest-later, top-heaviest}
use Rattle.optimum.proofs.Gather.{without, count-without-same, count-without-other, length_without, over-without, gather}

-- the list up to the first place at which an island has Q positions: the island x, and what stands behind it
record Reached (Q : ℕ) (plan : List ℕ) : Type 0 where
  before : List ℕ
  x : ℕ
  behind : List ℕ
  whole : plan ≡ (before ++ (x ∷ [])) ++ behind
  filled : suc (count x before) ≡ Q
  others : (z : ℕ) → count z before < Q

reached :
    (Q : ℕ) (rest done : List ℕ) (y : ℕ)
    → ((z : ℕ) → count z done < Q)
    → count y (done ++ rest) ≡ Q
    → Reached Q (done ++ rest)
unfolding count
reached Q [] done y few full = absurd (omega (arith, few y, ap (λ (l : List ℕ). count y l) (append-nil done)))
reached Q (x ∷ rest) done y few full =
    let moved : done ++ (x ∷ rest) ≡ (done ++ (x ∷ [])) ++ rest = sym (append_assoc done (x ∷ []) rest) in
    elim (ℕ_discrete (suc (count x done)) Q) [
      | yes e ↦ record { before = done; x = x; behind = rest; whole = moved; filled = e; others = few }
      | no n ↦
          subst (λ (l : List ℕ). Reached Q l) (sym moved)
          (reached Q rest (done ++ (x ∷ [])) y
          (λ z.
          elim (ℕ_discrete x z) [
            | yes e ↦
                omega
                (arith, few z, count-append z done (x ∷ []), single-same x z e, ap (λ (k : ℕ). count k done) e)
            | no f ↦ omega (arith, few z, count-append z done (x ∷ []), single-other x z f)
          ])
          (ap (λ (l : List ℕ). count y l) (sym moved) ∙ full))
    ]

-- an island is counted 0 or Q times, by whether it is one of the list
module _ (Q : ℕ) (zs plan : List ℕ) (fair : Fair Q zs plan) (z : ℕ) where
  pub fair-full : 0 < count z zs → (count z zs ≡ 1) × (count z plan ≡ Q)
  fair-full some =
      let one : count z zs ≡ 1 = omega (arith, fair.once z) in
      (one, fair.filled z ∙ ap (λ (n : ℕ). n * Q) one ∙ one-mul Q)

  pub fair-named : 0 < count z plan → 0 < count z zs
  fair-named some =
      elim (dec_lt 0 (count z zs)) [
        | yes named ↦ named
        | no none ↦
            let zero-times : count z zs * Q ≡ 0 * Q = ap (λ (n : ℕ). n * Q) (omega arith) in
            absurd (omega (arith, fair.filled z))
      ]

module _ (Q own : ℕ) (rate : ℕ → ℕ) (limit : ℕ) (pos : 0 < Q) (rises : NeverFalls rate limit) where
  -- what is to be shown of islands zs, positions and loads; `top` gives each island's heaviest load
  abbrev Bounded : ℕ → (ℕ → ℕ) → List ℕ → List ℕ → List ℕ → Type 0
  Bounded v top zs plan ws =
      (c : ℕ)
      × Split Q own rate ws v c
      × (c ≤ over (λ z. itself own (top z)) zs + weighed (λ z. rate (top z)) plan ws)

  -- each island's heaviest load
  abbrev Tops : (ℕ → ℕ) → List ℕ → List ℕ → List ℕ → Type 0
  Tops top zs plan ws = (z : ℕ) → 0 < count z zs → top z ≡ heaviest (held z plan ws)

  abbrev Claim : ℕ → (ℕ → ℕ) → List ℕ → List ℕ → List ℕ → Type 0
  Claim v top zs plan ws =
      length zs ≡ v
      → Fair Q zs plan
      → length plan ≡ length ws
      → Sorted ws
      → AtMost limit ws
      → Tops top zs plan ws
      → Bounded v top zs plan ws

  module _
      (v : ℕ) (top : ℕ → ℕ) (zs before behind us q : List ℕ) (x u : ℕ)
      (fair : Fair Q zs ((before ++ (x ∷ [])) ++ behind))
      (filled : suc (count x before) ≡ Q)
      (others : (z : ℕ) → count z before < Q)
      (len : length before ≡ length us)
      (len' : length behind ≡ length q)
      (sorted : Sorted ((us ++ (u ∷ [])) ++ q))
      (most : AtMost limit ((us ++ (u ∷ [])) ++ q))
      (tops : Tops top zs ((before ++ (x ∷ [])) ++ behind) ((us ++ (u ∷ [])) ++ q)) where
    -- the stretch up to x, and its loads
    stretch : List ℕ
    stretch = before ++ (x ∷ [])

    under : List ℕ
    under = us ++ (u ∷ [])

    stretch-length : length stretch ≡ length under
    unfolding stretch under
    stretch-length = omega (arith, length-append before (x ∷ []), length-append us (u ∷ []))

    counts : (z : ℕ) → count z (stretch ++ behind) ≡ count z stretch + count z behind
    counts z = count-append z stretch behind

    x-count : count x stretch ≡ Q
    unfolding stretch count
    x-count = omega (arith, count-append x before (x ∷ []), single-same x x refl)

    other-count : (z : ℕ) → ¬ (x ≡ z) → count z stretch ≡ count z before
    unfolding stretch count
    other-count z n = omega (arith, count-append z before (x ∷ []), single-other x z n)

    x-named : 0 < count x zs
    unfolding stretch
    x-named = fair-named Q zs (stretch ++ behind) fair x (omega (arith, counts x, x-count))

    x-gone : count x behind ≡ 0
    unfolding stretch
    x-gone = omega (arith, counts x, x-count, (fair-full Q zs (stretch ++ behind) fair x x-named).1)

    -- every other island still has positions behind
    still : (z : ℕ) → ¬ (x ≡ z) → 0 < count z zs → 0 < count z behind
    unfolding stretch
    still z n named =
        omega (arith, counts z, other-count z n, others z, (fair-full Q zs (stretch ++ behind) fair z named).1)

    -- x has its heaviest load at its last position
    x-top : top x ≡ u
    unfolding stretch under held heaviest
    x-top =
        tops x x-named
        ∙ ap (λ (l : List ℕ). heaviest l) (held-append x stretch behind under q stretch-length)
        ∙ heaviest-append (held x stretch under) (held x behind q)
        ∙ ap (λ (l : List ℕ). max (heaviest (held x stretch under)) (heaviest l)) (held-absent x behind q x-gone)
        ∙ max-zero (heaviest (held x stretch under))
        ∙ top-heaviest x before us u len (sorted_front under q sorted)

    -- and every other island has it behind x
    later-top : (z : ℕ) → ¬ (x ≡ z) → 0 < count z zs → top z ≡ heaviest (held z behind q)
    unfolding stretch under
    later-top z n named =
        tops z named ∙ heaviest-later z stretch behind under q stretch-length (le_of_eq len') sorted (still z n named)

    behind-heavier : AtLeast u q
    unfolding under
    behind-heavier =
        (sorted_back us (u ∷ q) (subst (λ (l : List ℕ). Sorted l) (append_assoc us (u ∷ []) q) sorted)).0

    x-lightest : (z : ℕ) → 0 < count z stretch → rate (top x) ≤ rate (top z)
    unfolding stretch under
    x-lightest z some =
        elim (ℕ_discrete x z) [
          | yes e ↦ le_of_eq (ap (λ (k : ℕ). rate (top k)) e)
          | no n ↦
              let named : 0 < count z zs = fair-named Q zs (stretch ++ behind) fair z (omega (arith, counts z)) in
              let higher : u ≤ heaviest (held z behind q) =
              heaviest-at-least u z behind q behind-heavier (still z n named) (le_of_eq len') in
              rises (top x) (top z) (omega (arith, x-top, later-top z n named))
              (le_trans (le_of_eq (tops z named)) (heaviest-at-most limit z (stretch ++ behind) (under ++ q) most))
        ]

    -- the stretch without x over the lower loads, and the block of the Q upper ones
    rest : List ℕ
    rest = without x stretch

    lower : List ℕ
    lower = take (length rest) under

    upper : List ℕ
    upper = drop (length rest) under

    rest-length : length stretch ≡ length rest + Q
    unfolding rest
    rest-length = length_without x stretch ∙ ap (λ (k : ℕ). length (without x stretch) + k) x-count

    lower-length : length rest ≡ length lower
    unfolding lower
    lower-length =
        sym (length-take (length rest) under ∙ min-eq_left (omega (arith, rest-length, stretch-length)))

    upper-length : length upper ≡ Q
    unfolding upper
    upper-length = omega (arith, length-drop (length rest) under, rest-length, stretch-length)

    under-parts : lower ++ upper ≡ under
    unfolding lower upper
    under-parts = take-append-drop (length rest) under

    loads-parts : under ++ q ≡ lower ++ (upper ++ q)
    loads-parts = ap (λ (l : List ℕ). l ++ q) (sym under-parts) ∙ append_assoc lower upper q

    upper-last : last_of upper ≡ top x
    unfolding under
    upper-last =
        sym (last-append lower upper (omega (arith, upper-length)))
        ∙ ap (λ (l : List ℕ). last_of l) under-parts
        ∙ last-append us (u ∷ []) (zero-lt-suc 0)
        ∙ sym x-top

    rest-fair : Fair Q (without x zs) (rest ++ behind)
    unfolding stretch rest
    rest-fair =
        record {
          once = λ z.
              elim (ℕ_discrete x z) [
                | yes e ↦
                    omega (arith, ap (λ (k : ℕ). count k (without x zs)) e, count-without-same x zs)
                | no n ↦ le_trans (le_of_eq (count-without-other x z zs n)) (fair.once z)
              ];
          filled = λ z.
              elim (ℕ_discrete x z) [
                | yes e ↦
                    subst (λ (k : ℕ). count k (rest ++ behind) ≡ count k (without x zs) * Q) e
                    (omega (
                      arith,
                      count-append x rest behind,
                      count-without-same x stretch,
                      x-gone,
                      ap (λ (k : ℕ). k * Q) (count-without-same x zs),
                    ))
                | no n ↦
                    omega (
                      arith,
                      count-append z rest behind,
                      count-without-other x z stretch n,
                      counts z,
                      fair.filled z,
                      ap (λ (k : ℕ). k * Q) (count-without-other x z zs n),
                    )
              ];
        }

    rest-tops : Tops top (without x zs) (rest ++ behind) (lower ++ q)
    unfolding under
    rest-tops z named =
        elim (ℕ_discrete x z) [
          | yes e ↦ absurd (omega (arith, ap (λ (k : ℕ). count k (without x zs)) e, count-without-same x zs))
          | no n ↦
              let had : 0 < count z zs = lt_of_lt_of_le named (le_of_eq (count-without-other x z zs n)) in
              later-top z n had
              ∙ sym (heaviest-later z rest behind lower q lower-length (le_of_eq len')
              (sorted-taken-out lower upper q (subst (λ (l : List ℕ). Sorted l) loads-parts sorted)) (still z n had))
        ]

    -- the block, put back into a split of the rest
    put_back : Bounded v top (without x zs) (rest ++ behind) (lower ++ q) → Bounded (suc v) top zs (stretch ++ behind) (under ++ q)
    unfolding stretch under rest upper block weighed
    put_back found =
        let weight : ℕ → ℕ = λ z. rate (top z) in
        let itself-top : ℕ → ℕ = λ z. itself own (top z) in
        let split : Split Q own rate (under ++ q) (suc v) (found.0 + block Q own rate upper) =
        subst (λ (l : List ℕ). Split Q own rate l (suc v) (found.0 + block Q own rate upper)) (sym loads-parts)
        (insertion Q own rate v found.0 upper lower q pos upper-length found.1) in
        let drawn-block : block Q own rate upper ≡ itself own (top x) + rate (top x) * sum upper =
        ap (λ (t : ℕ). itself own t + rate t * sum upper) upper-last in
        let gathered : weighed weight rest under + rate (top x) * sum upper ≤ weighed weight stretch under =
        gather weight x stretch under (sorted_front under q sorted) stretch-length x-lightest in
        let low : weighed weight rest under ≡ weighed weight rest lower =
        ap (λ (l : List ℕ). weighed weight l under) (sym (append-nil rest))
        ∙ ap (λ (l : List ℕ). weighed weight (rest ++ []) l) (sym under-parts)
        ∙ weighed-append weight rest [] lower upper lower-length
        ∙ add-zero (weighed weight rest lower) in (
          found.0 + block Q own rate upper,
          split,
          omega (
            arith,
            found.2,
            weighed-append weight rest behind lower q lower-length,
            weighed-append weight stretch behind under q stretch-length,
            over-without itself-top x zs (fair-full Q zs (stretch ++ behind) fair x x-named).0,
          ),
        )

    -- the same of the rest gives it of the whole
    one_more :
        length zs ≡ suc v
        → ((zs' plan ws : List ℕ) → Claim v top zs' plan ws)
        → Bounded (suc v) top zs (stretch ++ behind) (under ++ q)
    unfolding under stretch
    one_more some smaller =
        let named : count x zs ≡ 1 = (fair-full Q zs (stretch ++ behind) fair x x-named).0 in
        let sorted' : Sorted (lower ++ (upper ++ q)) = subst (λ (l : List ℕ). Sorted l) loads-parts sorted in
        let most' : AtMost limit (lower ++ (upper ++ q)) = subst (λ (l : List ℕ). AtMost limit l) loads-parts most in
        put_back
        (smaller (without x zs) (rest ++ behind) (lower ++ q) (omega (arith, length_without x zs)) rest-fair
        (omega (arith, length-append rest behind, length-append lower q, lower-length)) (sorted-taken-out lower upper q sorted')
        (most-taken-out limit lower upper q most') rest-tops)

  -- with the list and the loads cut where the first island is full
  cut-claim :
      (v : ℕ) (top : ℕ → ℕ) (zs plan ws : List ℕ)
      → Reached Q plan
      → ((zs' plan' ws' : List ℕ) → Claim v top zs' plan' ws')
      → Claim (suc v) top zs plan ws
  unfolding stretch under
  cut-claim v top zs plan ws at smaller some fair len sorted most tops =
      let stretch' = at.before ++ (at.x ∷ []) in
      let loads = cut_at stretch' at.behind ws (ap (λ (l : List ℕ). length l) (sym at.whole) ∙ len) in
      let ends = cut-end at.before at.x loads.0 loads.3 in
      let here : Claim (suc v) top zs (stretch' ++ at.behind) ((ends.0 ++ (ends.1 ∷ [])) ++ loads.1) =
      λ some' fair' len' sorted' most' tops'.
      one_more v top zs at.before at.behind ends.0 loads.1 at.x ends.1 fair' at.filled at.others
      ends.3 loads.4 sorted' most' tops' some' smaller in
      subst (λ (l : List ℕ). Claim (suc v) top zs l ws) (sym at.whole)
      (subst (λ (l : List ℕ). Claim (suc v) top zs (stretch' ++ at.behind) l)
      (sym (loads.2 ∙ ap (λ (l : List ℕ). l ++ loads.1) ends.2)) here)
      some fair len sorted most tops

  pub lower-bound : (v : ℕ) (top : ℕ → ℕ) (zs plan ws : List ℕ) → Claim v top zs plan ws
  unfolding count stretch under
  lower-bound zero top [] [] [] none fair len sorted most tops = (0, Split.empty refl refl refl, zero-le)
  lower-bound zero top [] [] (w ∷ ws) none fair len sorted most tops = absurd (suc-ne-zero _ (sym len))
  lower-bound zero top [] (y ∷ plan) ws none fair len sorted most tops =
      absurd (not-suc-le-zero (fair-named Q [] (y ∷ plan) fair y (omega (arith, count_same y y plan refl))))
  lower-bound zero top (z ∷ zs) plan ws none fair len sorted most tops = absurd (suc-ne-zero _ none)
  lower-bound (suc v) top [] plan ws some fair len sorted most tops = absurd (suc-ne-zero _ (sym some))
  lower-bound (suc v) top (y ∷ zs) plan ws some fair len sorted most tops =
      cut-claim v top (y ∷ zs) plan ws
      (reached Q plan [] y (λ z. pos) (fair-full Q (y ∷ zs) plan fair y (omega (arith, count_same y y zs refl))).1)
      (lower-bound v top) some fair len sorted most tops
