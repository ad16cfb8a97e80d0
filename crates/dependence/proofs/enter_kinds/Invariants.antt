-- Each turn enters the place in the row of one more kind, if it is paired.
use Rattle.dependence.specs.Inner.Reading.{KindsJoined}
use Rattle.dependence.proofs.enter_kinds.Given as goal

abbrev pub invariant-loop-k : goal.invariant-loop-k
invariant-loop-k l = KindsJoined l.pairs l.initial.catalogue l.catalogue l.column l.kind l.k
