-- No second answer fits a call of the exported function, by its own contract: number, total and both buffers.
--     Determines    two results of one call, each with what it leaves in all that is lent, are equal if the contract allows both
--     call_once     so it is here
-- The contract is the one that the toolchain reads from the source and that every caller learns, so that a part which is left out there
-- can't be said here again. Assumes nothing.
use Rattle.std.specs.Prelude.{ℕ, ◌≡◌, List}
use contract.Lifetimes.{Lfts}
use denote.Triple.Clauses.{Lasts, at_exit}
use borrow.Fn.Kinds.{ParamKind, ResultKind, Out, Dens, res_t, ended_of}
use Rattle.optimum.proofs.Promises.{answered_once}
use Rattle.mizhgavul_c.proofs.mizhgavul_plan.Kinds as call_kinds
use Rattle.mizhgavul_c.proofs.mizhgavul_plan.Reads as call_reads

-- κs are the lifetimes and `given` the arguments; `left` has the last value of every place that is lent to be written
abbrev Determines : {n : ℕ} (ps : List (ParamKind n)) (r : ResultKind n) → Out n ps r → Type 0
Determines {n} ps r learnt =
    (κs : Lfts n) (given : Dens κs ps) (result result' : (res_t r κs).Denot) (left left' : Lasts (ended_of n ps r) κs given)
    → learnt κs given result (at_exit (ended_of n ps r) κs given left)
    → learnt κs given result' (at_exit (ended_of n ps r) κs given left')
    → (result ≡ result') × (left ≡ left')

-- "every input has one result and one content of the lent buffers afterwards, in refusals too"
pub call_once : Determines call_kinds.ps call_kinds.r call_reads.Learnt
call_once κs given r r' left left' one other =
    let same = answered_once _ _ _ r r' _ _ _ _ _ _ one other in
    (same.number, λ i. (tt, (tt, (tt, (tt, (tt, (tt, (same.plans i, (same.levels i, (same.totals i, tt))))))))))
