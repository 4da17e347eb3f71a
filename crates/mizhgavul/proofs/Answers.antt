-- No second answer fits a call.
--     call_once    two answers to one call are equal in number, total and both buffers
-- Assumes nothing.
use Prim.Native.Nat.{ℕ}
use mathlib.Core.List.{List}
use Rattle.model.specs.Answer.{Answered}
use Rattle.optimum.specs.Demands.{SameAnswer}
use Rattle.optimum.proofs.Promises.{answered_once}
use Rattle.planner.specs.Given.{job_of}

-- what the caller hands over
module _ (islands cores power : ℕ) (frequencies powers loads plan₀ levels₀ : List ℕ) where
  -- "every input has one result and one content of the lent buffers afterwards, in refusals too"
  pub call_once :
      (n n' reported reported' : ℕ) (planned leveled planned' leveled' : List ℕ)
      → Answered (job_of islands cores power frequencies powers loads) plan₀ levels₀ n reported planned leveled
      → Answered (job_of islands cores power frequencies powers loads) plan₀ levels₀ n' reported' planned' leveled'
      → SameAnswer n reported planned leveled n' reported' planned' leveled'
  call_once = answered_once (job_of islands cores power frequencies powers loads) plan₀ levels₀
