-- The positions of an island, and the highest of them.
--     members_absent              an island that is counted 0 times has none
--     members_length              an island has as many as it is counted
--     members_first               of a list, cut at its first member
--     members_last                of a list, with one more member behind it
--     members_member              of a lower part, a gap and the member behind it
--     highest_left                in two lists, where the island does not stand in the second
--     highest_right               in two lists, where it does
--     highest_end                 where it stands last
--     highest_length              no position is higher than the list is long
--     highest_some                an island that is counted has a highest position
--     parts_below, parts_behind   in a lower part, a gap and the member behind it: the highest position of an island below, of one in the gap
-- Assumes nothing.
use Prim.Native.Nat.{ℕ, suc, ◌+◌, ◌≤◌, ◌<◌, zero-le}
use mathlib.Core.Path.{◌≡◌, refl, sym, ap, ◌∙◌}
use mathlib.Core.Bool.{cond}
use mathlib.Core.List.{List, [], ◌∷◌, ◌++◌, append-nil, append_assoc}
use native.Mathlib.Nat.{not-suc-le-zero}
use native.Mathlib.Decide.{ℕ_discrete, dec_lt}
use native.Mathlib.Omega.{arith}
use borrow.Author.Tests.{eq-eqb, ne_eqb}
use lib.Dec.{eqb}
use lib.ListN.{length, get_or, length-append, get_or-append}
use Rattle.model.specs.Plan.{count, members, highest}
use Rattle.optimum.proofs.Lists.{cons_same}
use Rattle.optimum.proofs.Counts.{count_same, count_other, count_append, single_other, single_same}

members_same : (y z p : ℕ) (a : List ℕ) → y ≡ z → members z p (y ∷ a) ≡ members z (suc p) a ++ (p ∷ [])
unfolding members
members_same y z p a e = rw (eq-eqb y z e)

members_other : (y z p : ℕ) (a : List ℕ) → ¬ (y ≡ z) → members z p (y ∷ a) ≡ members z (suc p) a
unfolding members
members_other y z p a n = rw (ne_eqb y z n) (append-nil (members z (suc p) a))

pub members_absent : (z p : ℕ) (a : List ℕ) → count z a ≡ 0 → members z p a ≡ []
unfolding members
members_absent z p [] none = refl
members_absent z p (y ∷ a) none =
    elim (ℕ_discrete y z) [
      | yes e ↦ absurd (omega (arith, count_same y z a e))
      | no n ↦ members_other y z p a n ∙ members_absent z (suc p) a (omega (arith, count_other y z a n))
    ]

pub members_length : (z p : ℕ) (a : List ℕ) → length (members z p a) ≡ count z a
unfolding members count
members_length z p [] = refl
members_length z p (y ∷ a) =
    elim (ℕ_discrete y z) [
      | yes e ↦
          ap (λ (l : List ℕ). length l) (members_same y z p a e)
          ∙ omega (arith, length-append (members z (suc p) a) (p ∷ []), members_length z (suc p) a, count_same y z a e)
      | no n ↦
          ap (λ (l : List ℕ). length l) (members_other y z p a n) ∙ members_length z (suc p) a ∙ sym (count_other y z a n)
    ]

members_append : (z p : ℕ) (a b : List ℕ) → members z p (a ++ b) ≡ members z (p + length a) b ++ members z p a
unfolding members
members_append z p [] b = ap (λ (q : ℕ). members z q b) (omega arith) ∙ sym (append-nil (members z (p + 0) b))
members_append z p (y ∷ a) b =
    let here : List ℕ = cond (eqb y z) (p ∷ []) [] in
    ap (λ (l : List ℕ). l ++ here) (members_append z (suc p) a b)
    ∙ append_assoc (members z (suc p + length a) b) (members z (suc p) a) here
    ∙ ap (λ (q : ℕ). members z q b ++ (members z (suc p) a ++ here)) (omega arith)

-- the first of the members, by the first entry
first_later :
    (y z p : ℕ) (a : List ℕ) → 0 < count z a → get_or (members z p (y ∷ a)) 0 0 ≡ get_or (members z (suc p) a) 0 0
unfolding members
first_later y z p a some =
    get_or-append (members z (suc p) a) (cond (eqb y z) (p ∷ []) []) 0 0 (omega (arith, members_length z (suc p) a))

first_here : (y z p : ℕ) (a : List ℕ) → y ≡ z → count z a ≡ 0 → get_or (members z p (y ∷ a)) 0 0 ≡ p
first_here y z p a e none =
    ap (λ (l : List ℕ). get_or l 0 0)
    (members_same y z p a e ∙ ap (λ (l : List ℕ). l ++ (p ∷ [])) (members_absent z (suc p) a none))

first_shifted :
    (z k p : ℕ) (a : List ℕ) → 0 < count z a → get_or (members z (k + p) a) 0 0 ≡ k + get_or (members z p a) 0 0
unfolding count
first_shifted z k p [] some = absurd (not-suc-le-zero some)
first_shifted z k p (y ∷ a) some =
    elim (dec_lt 0 (count z a)) [
      | yes more ↦
          let moved : suc (k + p) ≡ k + suc p = omega arith in
          first_later y z (k + p) a more
          ∙ ap (λ (q : ℕ). get_or (members z q a) 0 0) moved
          ∙ first_shifted z k (suc p) a more
          ∙ ap (λ (n : ℕ). k + n) (sym (first_later y z p a more))
      | no none ↦
          elim (ℕ_discrete y z) [
            | yes e ↦
                first_here y z (k + p) a e (omega arith) ∙ ap (λ (n : ℕ). k + n) (sym (first_here y z p a e (omega arith)))
            | no n ↦ absurd (omega (arith, count_other y z a n))
          ]
    ]

highest_absent : (z : ℕ) (a : List ℕ) → count z a ≡ 0 → highest z a ≡ 0
unfolding highest
highest_absent z a none = ap (λ (l : List ℕ). get_or l 0 0) (members_absent z 1 a none)

pub highest_left : (z : ℕ) (a b : List ℕ) → count z b ≡ 0 → highest z (a ++ b) ≡ highest z a
unfolding highest
highest_left z a b none =
    ap (λ (l : List ℕ). get_or l 0 0)
    (members_append z 1 a b ∙ ap (λ (l : List ℕ). l ++ members z 1 a) (members_absent z (1 + length a) b none))

pub highest_right : (z : ℕ) (a b : List ℕ) → 0 < count z b → highest z (a ++ b) ≡ length a + highest z b
unfolding highest
highest_right z a b some =
    let turned : 1 + length a ≡ length a + 1 = omega arith in
    ap (λ (l : List ℕ). get_or l 0 0) (members_append z 1 a b)
    ∙ get_or-append (members z (1 + length a) b) (members z 1 a) 0 0 (omega (arith, members_length z (1 + length a) b))
    ∙ ap (λ (q : ℕ). get_or (members z q b) 0 0) turned
    ∙ first_shifted z (length a) 1 b some

pub highest_some : (z : ℕ) (a : List ℕ) → 0 < count z a → 0 < highest z a
unfolding count highest
highest_some z [] some = absurd (not-suc-le-zero some)
highest_some z (y ∷ a) some =
    elim (dec_lt 0 (count z a)) [
      | yes more ↦ omega (arith, highest_right z (y ∷ []) a more)
      | no none ↦
          elim (ℕ_discrete y z) [
            | yes e ↦ omega (arith, first_here y z 1 a e (omega arith))
            | no n ↦ absurd (omega (arith, count_other y z a n))
          ]
    ]

pub highest_length : (z : ℕ) (a : List ℕ) → highest z a ≤ length a
unfolding highest members
highest_length z [] = zero-le
highest_length z (y ∷ a) =
    elim (dec_lt 0 (count z a)) [
      | yes more ↦ omega (arith, highest_right z (y ∷ []) a more, highest_length z a)
      | no none ↦
          elim (ℕ_discrete y z) [
            | yes e ↦ omega (arith, first_here y z 1 a e (omega arith))
            | no n ↦ omega (arith, highest_absent z (y ∷ a) (count_other y z a n ∙ omega arith))
          ]
    ]

pub highest_end : (z : ℕ) (a : List ℕ) → highest z (a ++ (z ∷ [])) ≡ suc (length a)
highest_end z a =
    let some : 0 < count z (z ∷ []) = omega (arith, single_same z z refl) in
    omega (arith, highest_right z a (z ∷ []) some, highest_some z (z ∷ []) some, highest_length z (z ∷ []))

-- a lower part, a gap and the member x behind it
pub parts_below :
    (z x : ℕ) (low gap plan : List ℕ)
    → plan ≡ low ++ (gap ++ (x ∷ []))
    → ¬ (x ≡ z)
    → count z gap ≡ 0
    → highest z plan ≡ highest z low
parts_below z x low gap plan ep n none =
    ap (λ (a : List ℕ). highest z a) ep
    ∙ highest_left z low (gap ++ (x ∷ [])) (omega (arith, count_append z gap (x ∷ []), single_other x z n))

pub parts_behind :
    (z x : ℕ) (low gap plan : List ℕ)
    → plan ≡ low ++ (gap ++ (x ∷ []))
    → ¬ (x ≡ z)
    → 0 < count z gap
    → highest z plan ≡ length low + highest z gap
parts_behind z x low gap plan ep n some =
    ap (λ (a : List ℕ). highest z a) ep
    ∙ highest_right z low (gap ++ (x ∷ [])) (omega (arith, count_append z gap (x ∷ [])))
    ∙ ap (λ (k : ℕ). length low + k) (highest_left z gap (x ∷ []) (single_other x z n))

pub members_first :
    (z p : ℕ) (a b : List ℕ)
    → count z a ≡ 0
    → members z p (a ++ (z ∷ b)) ≡ members z (suc (p + length a)) b ++ ((p + length a) ∷ [])
members_first z p a b none =
    members_append z p a (z ∷ b)
    ∙ ap (λ (l : List ℕ). members z (p + length a) (z ∷ b) ++ l) (members_absent z p a none)
    ∙ append-nil (members z (p + length a) (z ∷ b))
    ∙ members_same z z (p + length a) b refl

pub members_last : (x p : ℕ) (c : List ℕ) → members x p (c ++ (x ∷ [])) ≡ (p + length c) ∷ members x p c
unfolding members
members_last x p c =
    members_append x p c (x ∷ []) ∙ ap (λ (l : List ℕ). l ++ members x p c) (members_same x x (p + length c) [] refl)

pub members_member :
    (x p : ℕ) (low gap : List ℕ)
    → count x gap ≡ 0
    → members x p (low ++ (gap ++ (x ∷ []))) ≡ (p + (length low + length gap)) ∷ members x p low
members_member x p low gap none =
    ap (members x p) (sym (append_assoc low gap (x ∷ [])))
    ∙ members_last x p (low ++ gap)
    ∙ cons_same (p + length (low ++ gap)) (p + (length low + length gap)) (members x p (low ++ gap)) (members x p low)
    (omega (arith, length-append low gap))
    (members_append x p low gap
    ∙ ap (λ (l : List ℕ). l ++ members x p low) (members_absent x (p + length low) gap none))
