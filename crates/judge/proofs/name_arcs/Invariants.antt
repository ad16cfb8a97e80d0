-- The invariant: the arcs so far have their values.
use Rattle.judge.proofs.NamedCycles.{NamedUpTo}
use Rattle.judge.proofs.name_arcs.Given as goal

abbrev pub invariant-loop-i : goal.invariant-loop-i
invariant-loop-i l = NamedUpTo l.g l.cycle l.initial.values l.values l.i
