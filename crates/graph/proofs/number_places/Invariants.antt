-- Before each turn `counts` has the number of steps of each run at the places below p.
use mathlib.Core.Path.{◌≡◌}
use lib.ListN.{length, take}
use Rattle.book.specs.Format.{run_limit}
use Rattle.graph.proofs.Numbering.{NumberedBelow}
use Rattle.graph.proofs.number_places.Given as goal

abbrev pub invariant-loop-p : goal.invariant-loop-p
invariant-loop-p l = (length l.counts ≡ run_limit) × NumberedBelow (take l.n l.history) l.ordinals l.places l.counts l.n l.p
