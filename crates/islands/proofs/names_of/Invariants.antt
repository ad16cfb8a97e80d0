-- Each run below k has its own name; then the names after the links of the runs below r. After the last they are those of the components.
use Rattle.islands.specs.Inner.Names.{NamesUpTo}
use Rattle.islands.proofs.Listing.{OwnBelow}
use Rattle.islands.proofs.names_of.Given as goal

abbrev pub invariant-loop-k : goal.invariant-loop-k
invariant-loop-k l = OwnBelow l.name-items l.k

abbrev pub invariant-loop-r : goal.invariant-loop-r
invariant-loop-r l = NamesUpTo l.catalogue l.links l.n l.r l.names
