-- After r turns s is the sum of the first r lengths.
use Rattle.dependence.proofs.Steps.{StartsBelow}
use Rattle.dependence.proofs.starts.Given as goal

abbrev pub invariant-loop-r : goal.invariant-loop-r
invariant-loop-r l = StartsBelow l.lengths l.t l.s l.r
