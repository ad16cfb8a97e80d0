-- The invariant: `seen` has the runs of the places so far, and each run's steps among them stand together. A run that was seen comes again
-- only right behind itself.
use Rattle.classes.proofs.SerialLaws.{TogetherUpTo}
use Rattle.classes.proofs.stands_together.Given as goal

abbrev pub invariant-loop-p : goal.invariant-loop-p
invariant-loop-p l = TogetherUpTo l.history l.seen l.p
