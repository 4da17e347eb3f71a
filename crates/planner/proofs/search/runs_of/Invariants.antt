-- The loop of `runs_of`: the runs that begin before `start` are added. Assumes nothing.
use Rattle.planner.proofs.Growing.{Growing}
use Rattle.planner.proofs.search.runs_of.Given as goal

abbrev pub invariant-loop-start : goal.invariant-loop-start
invariant-loop-start l = Growing l.positions l.initial.totals l.m l.totals l.start
