-- r has one name with each run below s to which it links.
use Rattle.islands.proofs.Naming.{ConnectedBelow}
use Rattle.islands.proofs.connect_run.Given as goal

abbrev pub invariant-loop-s : goal.invariant-loop-s
invariant-loop-s l = ConnectedBelow l.catalogue l.links l.n l.r l.names l.s
