-- Before each turn the row has taken the places of `linked` from `end` on, each with all that it depends on.
use Rattle.dependence.proofs.DependenceRows.{RowTaken}
use Rattle.dependence.proofs.dependence_row.Given as goal

abbrev pub invariant-loop-end : goal.invariant-loop-end
invariant-loop-end l = RowTaken l.dep l.linked l.m l.end

abbrev pub decreases-loop-end : goal.decreases-loop-end
decreases-loop-end l = l.end
