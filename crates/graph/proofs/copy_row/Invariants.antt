-- Each turn makes one more of the row, by the flag of the run.
use Rattle.graph.specs.Inner.Tables.{copied_row}
use Rattle.graph.proofs.UnitRows.{RowMade}
use Rattle.graph.proofs.copy_row.Given as goal

abbrev pub invariant-loop-o : goal.invariant-loop-o
invariant-loop-o l = RowMade l.place-items (copied_row l.cuts l.at l.t l.p l.from) l.o
