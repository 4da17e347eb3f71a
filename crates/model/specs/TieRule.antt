-- The one plan that is returned: the tie rule over the plans without a crossing.
--     Uncrossed    a full, numbered plan without a crossing
--     Leads        members read from the highest down are greater at the first difference, or never differ
--     Least        no plan without a crossing costs less
--     Taken        of the least-cost plans the one that the rule takes for its top island
--     Gap          a stretch between two members of an island, or before the first
--     ByRule       taken, and every gap by the same rule by itself
-- A run is given by three numbers: `before` positions stand below it, `base` islands have lower numbers, and it has v islands, so
-- that it holds the v · Q positions from before + 1 on and its islands are base + 1 to base + v. Assumes nothing.
use Rattle.std.specs.Prelude.{ℕ, ◌+◌, ◌-◌, ◌/◌, ◌≤◌, ◌<◌, ◌≡◌, ◌⊎◌, List, [], ◌∷◌, ◌++◌, length, get_or, drop}
use Rattle.model.specs.Power.{power}
use Rattle.model.specs.Plan.{Full, Numbered, members, count}
use Rattle.model.specs.Crossing.{NoCrossing}

-- the plans among which the rule chooses
pub record Uncrossed (Q base v : ℕ) (plan : List ℕ) : Type 0 where
  pub full : Full Q base v plan
  pub numbered : Numbered base v plan
  pub no_crossing : NoCrossing plan

-- "greater at the first difference": as far as the two agree, the next entry of the first is at least that of the second
abbrev pub Leads : List ℕ → List ℕ → Type 0
Leads l m = (j : ℕ) → ((k : ℕ) → k < j → get_or l k 0 ≡ get_or m k 0) → get_or m j 0 ≤ get_or l j 0

-- "The stretches between the members, and before the first, are gaps": c ends at a member x and begins behind one, or at the run's
-- first position
pub record Gap (x : ℕ) (plan b c d : List ℕ) : Type 0 where
  pub whole : plan ≡ b ++ (c ++ (x ∷ d))
  pub free : count x c ≡ 0
  pub start : (b ≡ []) ⊎ ((e : List ℕ) × (b ≡ e ++ (x ∷ [])))

-- Q, the island power, the cost by heaviest load, and the loads at all positions
module _ (Q own : ℕ) (rate : ℕ → ℕ) (ws : List ℕ) where
  -- "the least total among the plans without a crossing"
  pub record Least (before base v : ℕ) (plan : List ℕ) : Type 0 where
    pub uncrossed : Uncrossed Q base v plan
    pub least :
        (other : List ℕ)
        → Uncrossed Q base v other
        → power own rate base v plan (drop before ws) ≤ power own rate base v other (drop before ws)

  -- "Its top island holds its last position", and so has the highest number, base + v. "Read the top island's members from the
  -- highest down. Of the least-cost plans for the run, take the one whose members are greater at the first difference."
  pub record Taken (before base v : ℕ) (plan : List ℕ) : Type 0 where
    pub least : Least before base v plan
    pub leads : (other : List ℕ) → Least before base v other → Leads (members (base + v) 1 plan) (members (base + v) 1 other)

  -- "each gap is empty or a run, and is settled by the same rule by itself." "An empty gap costs nothing and names nobody." The
  -- positions below a gap that are no members belong to the gaps before it, Q to an island: so many numbers are given already.
  pub data ByRule : ℕ → ℕ → ℕ → List ℕ → Type 0 where
    empty : {before base v : ℕ} {plan : List ℕ} → v ≡ 0 → plan ≡ [] → ByRule before base v plan
    settled :
        {before base v : ℕ} {plan : List ℕ}
        → 0 < v
        → Taken before base v plan
        → ((b c d : List ℕ)
        → Gap (base + v) plan b c d
        → ByRule (before + length b) (base + (length b - count (base + v) b) / Q) (length c / Q) c)
        → ByRule before base v plan
