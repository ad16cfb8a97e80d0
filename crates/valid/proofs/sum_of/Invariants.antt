-- `sum_of` is right: the total is the sum of the bytes passed.
use Rattle.valid.proofs.Scans.{SumTo}
use Rattle.valid.proofs.sum_of.Given as goal

abbrev pub invariant-loop-x : goal.invariant-loop-x
invariant-loop-x l = SumTo l.s l.x-index l.total
