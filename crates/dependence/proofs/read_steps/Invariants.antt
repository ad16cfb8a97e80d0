-- Each turn reads one more step, the next of its run.
use lib.ListN.{take}
use Rattle.dependence.proofs.Steps.{ReadUpTo}
use Rattle.dependence.proofs.read_steps.Given as goal

abbrev pub invariant-loop-q : goal.invariant-loop-q
invariant-loop-q l = ReadUpTo l.pairs (take l.n l.history) l.lengths l.initial.next l.steps l.next l.catalogue l.seconds l.dep l.n l.q
