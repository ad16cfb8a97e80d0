-- Each turn takes an entry off, so the loop ends.
use Rattle.std.proofs.Common.{length}
use Rattle.read_books.proofs.write_all.Given as goal

abbrev pub decreases-loop-entry : goal.decreases-loop-entry
decreases-loop-entry g l = length l.rest
