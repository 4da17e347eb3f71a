-- Which of two lists of members leads.
--     leads_same        equal lists lead each other
--     leads_next        behind equal first entries, the rests decide
--     leads_first       the greater first entry leads
--     leads_one         lists of one length that lead each other are equal
-- Assumes nothing.
use Prim.Native.Nat.{ℕ, zero, suc, ◌<◌}
use mathlib.Core.Path.{◌≡◌, sym, ap}
use mathlib.Core.List.{List, ◌∷◌}
use native.Mathlib.Nat.{le_antisymm, not-suc-le-zero}
use native.Mathlib.Omega.{arith}
use lib.ListN.{length, get_or}
use lib.Seq.{ext_get_or}
use Rattle.model.specs.TieRule.{Leads}

pub leads_same : (l m : List ℕ) → l ≡ m → Leads l m
leads_same l m e j agree = omega (arith, ap (λ (a : List ℕ). get_or a j 0) e)

pub leads_next : (h k : ℕ) (l m : List ℕ) → h ≡ k → Leads l m → Leads (h ∷ l) (k ∷ m)
leads_next h k l m e leads zero agree = omega arith
leads_next h k l m e leads (suc j) agree = leads j (λ i b. agree (suc i) (omega arith))

pub leads_first : (h k : ℕ) (l m : List ℕ) → k < h → Leads (h ∷ l) (k ∷ m)
leads_first h k l m above zero agree = omega arith
leads_first h k l m above (suc j) agree = absurd (omega (arith, agree 0 (omega arith)))

-- as far as each entry is at least the other's, they agree, so the next entries are equal too
pub leads_one : (l m : List ℕ) → length l ≡ length m → Leads l m → Leads m l → l ≡ m
leads_one l m same first second = ext_get_or 0 l m same (agree (length l))
  where
    agree : (n k : ℕ) → k < n → get_or l k 0 ≡ get_or m k 0
    agree zero k h = absurd (not-suc-le-zero h)
    agree (suc n) k h =
        le_antisymm (second k (λ i b. sym (agree n i (omega arith)))) (first k (λ i b. agree n i (omega arith)))
