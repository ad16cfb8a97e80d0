-- The arrays hold the names of the runs below r, and those of them that are their own.
use Rattle.islands.proofs.Listing.{ListedBelow}
use Rattle.islands.proofs.listed.Given as goal

abbrev pub invariant-loop-r : goal.invariant-loop-r
invariant-loop-r l = ListedBelow l.names l.smallest l.list l.count l.r
