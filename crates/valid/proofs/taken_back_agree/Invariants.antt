-- `taken_back_agree` is right: it tests the runs one by one, and stops at the first that is taken back and is not withdrawn or has a step kept.
use Rattle.valid.proofs.Scans.{AgreeTo}
use Rattle.valid.proofs.taken_back_agree.Given as goal

abbrev pub invariant-loop-r : goal.invariant-loop-r
invariant-loop-r l = AgreeTo l.fn.taken_back l.withdrawn l.counts l.r
