-- A plan in which two islands take turns.
--     crossing_refused    it is not among those without a crossing
-- Assumes nothing.
use mathlib.Core.List.{[], ◌∷◌}
use native.Mathlib.Omega.{arith}
use Rattle.model.specs.Crossing.{NoCrossing}
use Rattle.optimum.proofs.Examples.{crossing_plan}

pub crossing_refused : ¬ (NoCrossing (1 ∷ 2 ∷ 1 ∷ 2 ∷ []))
crossing_refused free = free 1 2 (λ e. omega arith) crossing_plan
