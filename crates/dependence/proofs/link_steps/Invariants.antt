-- Each turn reads one more step, the next of its run.
use lib.ListN.{take}
use Rattle.dependence.proofs.Steps.{LinkedUpTo}
use Rattle.dependence.proofs.link_steps.Given as goal

abbrev pub invariant-loop-q : goal.invariant-loop-q
invariant-loop-q l = LinkedUpTo l.pairs (take l.n l.history) l.lengths l.initial.next l.steps l.next l.catalogue l.seconds l.links l.n l.q
