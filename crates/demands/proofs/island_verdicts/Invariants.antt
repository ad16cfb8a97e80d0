-- The invariant: the verdicts of the islands below i are told.
use Rattle.demands.proofs.IslandVerdicts.{VerdictsBelow}
use Rattle.demands.proofs.island_verdicts.Given as goal

abbrev pub invariant-loop-i : goal.invariant-loop-i
invariant-loop-i l = VerdictsBelow l.s l.islands.list l.verdicts l.i
