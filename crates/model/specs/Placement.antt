-- What a placement is: demands 2 and 3 speak of every one of these. It need be neither full nor sorted, its islands may cross, and
-- zero loads may stand anywhere. Assumes nothing.
use Rattle.std.specs.Prelude.{ℕ, ◌≤◌, ◌<◌, ◌≡◌, true, List, length, get_or}
use Rattle.model.specs.Table.{Table}
use Rattle.model.specs.Job.{Job}
use Rattle.model.specs.Power.{held, heaviest, active}

-- the table has "a level at least as fast as" the load
pub record FastEnough (t : Table) (w : ℕ) : Type 0 where
  pub level : ℕ
  pub within : level < length t.frequencies
  pub enough : w ≤ get_or t.frequencies level 0

-- "A placement gives every load an island from 1 to V, with at most Q loads on an island, and every active island has a level at
-- least as fast as its heaviest load."
pub record Placement (job : Job) (plan : List ℕ) : Type 0 where
  pub one_a_load : length plan ≡ length job.loads
  pub islands : (j : ℕ) → j < length plan → (1 ≤ get_or plan j 0) × (get_or plan j 0 ≤ job.islands)
  pub room : (z : ℕ) → length (held z plan job.loads) ≤ job.cores
  pub fast : (z : ℕ) → active (held z plan job.loads) ≡ true → FastEnough job.table (heaviest (held z plan job.loads))
