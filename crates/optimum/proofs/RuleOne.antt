-- The tie rule takes no more than one plan.
--     rule_one    two plans by the rule, for one run, are equal
-- Assumes nothing.
use Prim.Native.Nat.{ℕ, zero, suc, ◌+◌, ◌-◌, ◌/◌, ◌<◌}
use mathlib.Core.Path.{◌≡◌, refl, sym, ap, subst, ◌∙◌}
use mathlib.Core.Logic.{◌⊎◌, inl, inr}
use mathlib.Core.List.{List, [], ◌∷◌, ◌++◌, append_assoc}
use native.Mathlib.Omega.{arith}
use lib.ListN.{length}
use Rattle.model.specs.Plan.{count, members}
use Rattle.model.specs.TieRule.{Gap, ByRule}
use Rattle.optimum.proofs.Counts.{count_same, count_append, count_first}
use Rattle.optimum.proofs.Members.{members_length, members_first}
use Rattle.optimum.proofs.Lists.{end_one}
use Rattle.optimum.proofs.Leading.{leads_one}
use Rattle.optimum.proofs.GapParts.{end_some}
use Rattle.optimum.proofs.UncrossedRun.{top_last}

-- a list that ends with a member has nothing behind its last member
behind_nothing : (x : ℕ) (b rest e : List ℕ) → b ++ rest ≡ e ++ (x ∷ []) → count x rest ≡ 0 → rest ≡ []
behind_nothing x b [] e whole none = refl
behind_nothing x b (y ∷ rest) e whole none =
    absurd (omega (arith, end_some x b (y ∷ rest) (inr (e, whole)) (omega arith)))

-- lists with the same members are cut at the same place by the first of them
front_same :
    (x p : ℕ) (c c' d d' : List ℕ)
    → count x c ≡ 0
    → count x c' ≡ 0
    → members x p (c ++ (x ∷ d)) ≡ members x p (c' ++ (x ∷ d'))
    → (length c ≡ length c') × (members x (suc (p + length c)) d ≡ members x (suc (p + length c)) d')
front_same x p c c' d d' free free' same =
    let ends =
    end_one
    (members x (suc (p + length c)) d)
    (members x (suc (p + length c')) d')
    (p + length c)
    (p + length c')
    (sym (members_first x p c d free) ∙ same ∙ members_first x p c' d' free') in
    (omega (arith, ends.1), ends.0 ∙ ap (λ (q : ℕ). members x (suc q) d') (sym ends.1))

-- the first member goes to what is read
cut : (x : ℕ) (b c d : List ℕ) → b ++ (c ++ (x ∷ d)) ≡ b ++ (c ++ (x ∷ [])) ++ d
cut x b c d = ap (λ (l : List ℕ). b ++ l) (sym (append_assoc c (x ∷ []) d)) ∙ sym (append_assoc b (c ++ (x ∷ [])) d)

count_behind : (x r : ℕ) (rest c d : List ℕ) → rest ≡ c ++ (x ∷ d) → count x c ≡ 0 → count x rest ≡ suc r → count x d ≡ r
count_behind x r rest c d whole free some =
    let sum : count x rest ≡ count x (c ++ (x ∷ d)) = ap (count x) whole in
    omega (arith, count_append x c (x ∷ d), count_same x x d refl)

-- two plans that end with the island x and have the same members of it, and whose gaps from one place on are equal if they are
-- of one length
module _ (x : ℕ) (plan other : List ℕ)
    (last : (c : List ℕ) × (plan ≡ c ++ (x ∷ [])))
    (last' : (c : List ℕ) × (other ≡ c ++ (x ∷ [])))
    (gaps : (b c c' d d' : List ℕ) → Gap x plan b c d → Gap x other b c' d' → length c ≡ length c' → c ≡ c') where
  -- b is read in both of them, rest and rest' are not, and r members are left
  walk_on :
      (r p : ℕ) (b rest rest' : List ℕ)
      → plan ≡ b ++ rest
      → other ≡ b ++ rest'
      → (b ≡ []) ⊎ ((e : List ℕ) × (b ≡ e ++ (x ∷ [])))
      → members x p rest ≡ members x p rest'
      → count x rest ≡ r
      → count x rest' ≡ r
      → rest ≡ rest'
  walk_on zero p b rest rest' ep eo start same none none' =
      behind_nothing x b rest last.0 (sym ep ∙ last.1) none
      ∙ sym (behind_nothing x b rest' last'.0 (sym eo ∙ last'.1) none')
  walk_on (suc r) p b rest rest' ep eo start same some some' =
      let (c, d, whole, free) = count_first x rest (omega arith) in
      let (c', d', whole', free') = count_first x rest' (omega arith) in
      let next = front_same x p c c' d d' free free' (sym (ap (members x p) whole) ∙ same ∙ ap (members x p) whole') in
      let here : plan ≡ b ++ (c ++ (x ∷ d)) = ep ∙ ap (λ (l : List ℕ). b ++ l) whole in
      let here' : other ≡ b ++ (c' ++ (x ∷ d')) = eo ∙ ap (λ (l : List ℕ). b ++ l) whole' in
      let gap : c ≡ c' =
      gaps b c c' d d'
      (record { whole = here; free = free; start = start })
      (record { whole = here'; free = free'; start = start })
      next.0 in
      let behind : d ≡ d' =
      walk_on r (suc (p + length c)) (b ++ (c ++ (x ∷ []))) d d'
      (here ∙ cut x b c d)
      (here' ∙ ap (λ (l : List ℕ). b ++ (l ++ (x ∷ d'))) (sym gap) ∙ cut x b c d')
      (inr (b ++ c, sym (append_assoc b c (x ∷ []))))
      next.1
      (count_behind x r rest c d whole free some)
      (count_behind x r rest' c' d' whole' free' some') in
      whole ∙ (λ i. gap i ++ (x ∷ behind i)) ∙ sym whole'

pub rule_one :
    (Q own : ℕ) (rate : ℕ → ℕ) (ws : List ℕ)
    → 0 < Q
    → (before base v : ℕ) (plan other : List ℕ)
    → ByRule Q own rate ws before base v plan
    → ByRule Q own rate ws before base v other
    → plan ≡ other
rule_one Q own rate ws pos before base v plan other (ByRule.empty ev ep) (ByRule.empty ev' eo) = ep ∙ sym eo
rule_one Q own rate ws pos before base v plan other (ByRule.empty ev ep) (ByRule.settled some taken gaps) = absurd (omega arith)
rule_one Q own rate ws pos before base v plan other (ByRule.settled some taken gaps) (ByRule.empty ev eo) = absurd (omega arith)
rule_one Q own rate ws pos before base v plan other (ByRule.settled some taken gaps) (ByRule.settled some' taken' gaps') =
    let x : ℕ = base + v in
    let one = taken.least.uncrossed in
    let one' = taken'.least.uncrossed in
    let full : count x plan ≡ Q = one.full.filled x (omega arith) (omega arith) in
    let full' : count x other ≡ Q = one'.full.filled x (omega arith) (omega arith) in
    walk_on x plan other
    (top_last Q base v plan pos some one)
    (top_last Q base v other pos some one')
    (λ b c c' d d' gap gap' same. rule_one Q own rate ws pos _ _ _ c c' (gaps b c d gap)
    (subst
    (λ (n : ℕ). ByRule Q own rate ws (before + length b) (base + (length b - count x b) / Q) (n / Q) c')
    (sym same)
    (gaps' b c' d' gap')))
    Q 1 [] plan other refl refl (inl refl)
    (leads_one (members x 1 plan) (members x 1 other)
    (members_length x 1 plan ∙ full ∙ sym full' ∙ sym (members_length x 1 other))
    (taken.leads other taken'.least)
    (taken'.leads plan taken.least))
    full full'
