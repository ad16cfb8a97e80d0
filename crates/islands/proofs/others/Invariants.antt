-- Below the index stand flags, the others are the names as they were.
use Rattle.islands.proofs.Listing.{FlaggedBelow}
use Rattle.islands.proofs.others.Given as goal

abbrev pub invariant-loop-flag : goal.invariant-loop-flag
invariant-loop-flag l = FlaggedBelow l.fn.names l.run l.flag-items l.flag-index
