-- The names below the index are renamed, the others as they were.
use Rattle.islands.proofs.Naming.{RenamedBelow}
use Rattle.islands.proofs.rename.Given as goal

abbrev pub invariant-loop-name : goal.invariant-loop-name
invariant-loop-name l = RenamedBelow l.initial.names l.from l.to l.names l.name-index
