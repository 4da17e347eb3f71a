-- The level bytes, load by load.
--     SoFar          the bytes that the first k loads give
--     so_far_none    before the first load all are 0
--     so_far_more    a load above 0 gives its island its own level: no load before it is heavier
--     so_far_idle    a load of 0 changes nothing
--     so_far_all     after the last load they are the level numbers of the job
-- Assumes nothing.
use Prim.Native.Nat.{ℕ, suc, ◌+◌, ◌-◌, ◌≤◌, ◌<◌}
use mathlib.Core.Path.{◌≡◌, sym, ap, ◌∙◌, subst}
use mathlib.Core.Bool.{cond}
use mathlib.Core.List.{List, [], ◌∷◌, ◌++◌, append-nil}
use native.Mathlib.Nat.{zero-add, le-max_left}
use native.Mathlib.Numerals.{add-one}
use native.Mathlib.Decide.{ℕ_discrete}
use native.Mathlib.Omega.{arith}
use borrow.Author.Tests.{lt-ltb}
use lib.Dec.{ltb}
use lib.ListN.{length, get_or, set, take, drop, length-set, take-append-drop}
use lib.Seq.{length-take-le, take-suc, take-length, get_or-set_same, get_or-set_other, ext_get_or}
use Rattle.model.specs.Level.{level_of}
use Rattle.model.specs.Job.{Job}
use Rattle.model.specs.Power.{each, held, heaviest, active, level_number, levels}
use Rattle.model.specs.Plan.{Named}
use Rattle.model.specs.Refusals.{Ordered}
use Rattle.optimum.specs.Loads.{Sorted}
use Rattle.optimum.proofs.Spread.{each_length, each_at}
use Rattle.optimum.proofs.Held.{held_append, held_other, heaviest_append}
use Rattle.optimum.proofs.OrderedLoads.{ordered_sorted}
use Rattle.optimum.proofs.SortedLoads.{sorted_front, top_heaviest}
use Rattle.planner.specs.Positions.{Looked, Blank}

-- the heaviest of the first k loads on the island z
top : List ℕ → List ℕ → ℕ → ℕ → ℕ
top plan ws z k = heaviest (held z (take k plan) (take k ws))

module _ (plan ws : List ℕ) (as_long : length plan ≡ length ws) (k : ℕ) (some : k < length ws) where
  first_plan : take (suc k) plan ≡ take k plan ++ (get_or plan k 0 ∷ [])
  first_plan = take-suc plan k 0 (omega arith)

  first_loads : take (suc k) ws ≡ take k ws ++ (get_or ws k 0 ∷ [])
  first_loads = take-suc ws k 0 some

  firsts : length (take k plan) ≡ length (take k ws)
  firsts = length-take-le k plan (omega arith) ∙ sym (length-take-le k ws (omega arith))

  one_more :
      (z : ℕ)
      → held z (take (suc k) plan) (take (suc k) ws)
      ≡ held z (take k plan) (take k ws) ++ held z (get_or plan k 0 ∷ []) (get_or ws k 0 ∷ [])
  one_more z =
      rw (first_plan, first_loads)
      (held_append z (take k plan) (get_or plan k 0 ∷ []) (take k ws) (get_or ws k 0 ∷ []) firsts)

  top_other : (z : ℕ) → ¬ (get_or plan k 0 ≡ z) → top plan ws z (suc k) ≡ top plan ws z k
  unfolding top held
  top_other z other =
      ap (λ (l : List ℕ). heaviest l)
      (one_more z
      ∙ ap (λ (l : List ℕ). held z (take k plan) (take k ws) ++ l) (held_other (get_or plan k 0) z [] (get_or ws k 0) [] other)
      ∙ append-nil (held z (take k plan) (take k ws)))

  top_rises : (z : ℕ) → top plan ws z k ≤ top plan ws z (suc k)
  unfolding top
  top_rises z = rw (one_more z, heaviest_append) (le-max_left _ _)

  -- the load at k is at least as heavy as those before it, so on its own island it is the heaviest
  top_same : Ordered ws → (z : ℕ) → get_or plan k 0 ≡ z → top plan ws z (suc k) ≡ get_or ws k 0
  unfolding top
  top_same ordered z same =
      let whole : Sorted (take (suc k) ws ++ drop (suc k) ws) = rw (take-append-drop (suc k) ws) (ordered_sorted ws ordered) in
      let sorted : Sorted (take k ws ++ (get_or ws k 0 ∷ [])) =
      rw first_loads at (sorted_front (take (suc k) ws) (drop (suc k) ws) whole) in
      rw (first_plan, first_loads, same) (top_heaviest z (take k plan) (take k ws) (get_or ws k 0) firsts sorted)

  -- and where it is 0, those before it are 0 too
  top_idle : Ordered ws → get_or ws k 0 ≤ 0 → (z : ℕ) → top plan ws z (suc k) ≡ top plan ws z k
  top_idle ordered idle z =
      elim (ℕ_discrete (get_or plan k 0) z) [
        | yes e ↦ omega (arith, top_rises z, top_same ordered z e)
        | no other ↦ top_other z other
      ]

-- the level number by the heaviest load
number : Job → ℕ → ℕ
number job w = cond (ltb 0 w) (suc (level_of job.table w)) 0

module _ (job : Job) (plan steps : List ℕ) where
  pub record SoFar (k : ℕ) (numbers : List ℕ) : Type 0 where
    pub sized : length numbers ≡ job.islands
    pub bytes : (z : ℕ) → get_or numbers z 0 ≡ level_number job (held (suc z) (take k plan) (take k job.loads))

  pub so_far_none : (numbers : List ℕ) → Blank numbers → length numbers ≡ job.islands → SoFar 0 numbers
  unfolding held heaviest active level_number
  so_far_none numbers blank sized = record { sized = sized; bytes = blank }

  pub so_far_all :
      (k : ℕ) (numbers : List ℕ)
      → length plan ≡ length job.loads
      → SoFar k numbers
      → k ≡ length job.loads
      → numbers ≡ levels job plan
  unfolding levels
  so_far_all k numbers as_long so_far all =
      let byte : ℕ → ℕ = λ z. level_number job (held z plan job.loads) in
      let whole : take k plan ≡ plan = ap (λ (n : ℕ). take n plan) (all ∙ sym as_long) ∙ take-length plan in
      let loads : take k job.loads ≡ job.loads = ap (λ (n : ℕ). take n job.loads) all ∙ take-length job.loads in
      ext_get_or 0 numbers (each byte 0 job.islands) (omega (arith, so_far.sized, each_length byte 0 job.islands))
      (λ z h.
      so_far.bytes z
      ∙ ap (λ (l : List ℕ). level_number job (held (suc z) l (take k job.loads))) whole
      ∙ ap (λ (l : List ℕ). level_number job (held (suc z) plan l)) loads
      ∙ ap (λ (n : ℕ). byte (suc n)) (sym (zero-add z))
      ∙ sym (each_at byte 0 job.islands z (omega arith)))

  -- one turn: the load at k is at least as heavy as those before it
  module _ (ordered : Ordered job.loads) (as_long : length plan ≡ length job.loads) (k : ℕ) (some : k < length job.loads) where
    by_top :
        (after : List ℕ)
        → length after ≡ job.islands
        → ((z : ℕ) → get_or after z 0 ≡ number job (top plan job.loads (suc z) (suc k)))
        → SoFar (k + 1) after
    unfolding top number level_number active
    by_top after sized bytes = subst (λ (n : ℕ). SoFar n after) (sym (add-one k)) (record { sized = sized; bytes = bytes })

    module _ (numbers : List ℕ) (so_far : SoFar k numbers) (after : List ℕ) where
      pub so_far_idle : after ≡ numbers → get_or job.loads k 0 ≤ 0 → SoFar (k + 1) after
      unfolding top number level_number active
      so_far_idle kept idle =
          by_top after (ap (λ (l : List ℕ). length l) kept ∙ so_far.sized)
          (λ z.
          ap (λ (l : List ℕ). get_or l z 0) kept
          ∙ so_far.bytes z
          ∙ ap (λ (w : ℕ). number job w) (sym (top_idle plan job.loads as_long k some ordered idle (suc z))))

      pub so_far_more :
          (i : ℕ)
          → after ≡ set numbers i (get_or steps k 0 + 1)
          → 0 < get_or job.loads k 0
          → Looked job.table.frequencies job.loads steps
          → Named 0 job.islands plan
          → i ≡ get_or plan k 0 - 1
          → SoFar (k + 1) after
      unfolding top number level_number active level_of
      so_far_more i stored heavy looked named place =
          let v = get_or steps k 0 + 1 in
          let range = named k (omega arith) in
          by_top after (ap (λ (l : List ℕ). length l) stored ∙ length-set numbers i v ∙ so_far.sized)
          (λ z.
          ap (λ (l : List ℕ). get_or l z 0) stored
          ∙ elim (ℕ_discrete z i) [
            | yes e ↦
                ap (λ (n : ℕ). get_or (set numbers i v) n 0) e
                ∙ get_or-set_same numbers i v 0 (omega (arith, so_far.sized))
                ∙ rw (top_same plan job.loads as_long k some ordered (suc z) (omega arith), lt-ltb 0 (get_or job.loads k 0) heavy, ← looked k some)
                (add-one _)
            | no other ↦
                get_or-set_other numbers i z v 0 other
                ∙ so_far.bytes z
                ∙ ap (λ (w : ℕ). number job w) (sym (top_other plan job.loads as_long k some (suc z) (λ e. other (omega arith))))
          ])
