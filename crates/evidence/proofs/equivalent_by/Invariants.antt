-- The invariant: the first a steps of l are steps of the history, each after all that it depends on, and `taken` has their places. As long
-- as the history, l then has all its steps.
use Rattle.evidence.proofs.OrderLaws.{AgreedUpTo}
use Rattle.evidence.proofs.equivalent_by.Given as goal

abbrev pub invariant-loop-r : goal.invariant-loop-r
invariant-loop-r l = AgreedUpTo l.history l.dep l.l l.taken l.r-index
