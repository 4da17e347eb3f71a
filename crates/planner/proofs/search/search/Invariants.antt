-- The loop of `search`: the table has the best of every run of at most m islands. Assumes nothing.
use Rattle.planner.proofs.Growing.{Known}
use Rattle.planner.proofs.search.search.Given as goal

abbrev pub invariant-loop-m : goal.invariant-loop-m
invariant-loop-m l = Known l.positions l.totals l.m
