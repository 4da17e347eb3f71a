-- Full plans: every position has an island, and every island holds exactly Q positions.
--     padding     how many zeros stand in front
--     padded      the loads at all positions: zeros in front
--     count       how many positions an island holds
--     members     the positions of an island, the highest first
--     highest     the highest of them
--     Named       every entry is one of the islands base + 1 to base + v
--     Full        the islands base + 1 to base + v hold exactly Q positions each, and there are no others
--     Numbered    the islands are numbered by their highest position, lowest first
--     shown       what the caller sees of a full plan: the entries of its own loads
-- The entry at place j of a list, from 0, is position j + 1. Assumes nothing.
use Rattle.std.specs.Prelude.{ℕ, suc, ◌+◌, ◌-◌, ◌*◌, ◌≤◌, ◌<◌, ◌≡◌, cond, List, [], ◌∷◌, ◌++◌, eqb, length, get_or, drop, replicate}
use Rattle.model.specs.Job.{Job}

-- "Put V·Q − n loads of zero in front; the positions are then 1 to V·Q."
unfoldable pub padding : Job → ℕ
padding job = job.islands * job.cores - length job.loads

unfoldable pub padded : Job → List ℕ
padded job = replicate (padding job) 0 ++ job.loads

-- the entries of the caller's own loads
unfoldable pub shown : Job → List ℕ → List ℕ
shown job plan = drop (padding job) plan

-- how many positions the island z holds
unfoldable pub count : (z : ℕ) (plan : List ℕ) → ℕ
count z [] = 0
count z (y ∷ plan) = cond (eqb y z) (suc (count z plan)) (count z plan)

-- the positions of the island z in a list whose first entry is position p, "from the highest down"
unfoldable pub members : (z p : ℕ) (plan : List ℕ) → List ℕ
members z p [] = []
members z p (y ∷ plan) = members z (suc p) plan ++ cond (eqb y z) (p ∷ []) []

-- the highest position of the island z; 0 where it holds none
unfoldable pub highest : (z : ℕ) (plan : List ℕ) → ℕ
highest z plan = get_or (members z 1 plan) 0 0

-- every entry is one of the islands base + 1 to base + v
abbrev pub Named : (base v : ℕ) (plan : List ℕ) → Type 0
Named base v plan = (j : ℕ) → j < length plan → (base < get_or plan j 0) × (get_or plan j 0 ≤ base + v)

-- "The full islands hold exactly Q positions each"
pub record Full (Q base v : ℕ) (plan : List ℕ) : Type 0 where
  pub named : Named base v plan
  pub filled : (z : ℕ) → base < z → z ≤ base + v → count z plan ≡ Q

-- "and are numbered, in every plan worked out here, by their highest position, lowest first"
abbrev pub Numbered : (base v : ℕ) (plan : List ℕ) → Type 0
Numbered base v plan = (x y : ℕ) → base < x → x < y → y ≤ base + v → highest x plan < highest y plan
