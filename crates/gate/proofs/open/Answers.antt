-- `open` is right: the gate is newly opened over the book that was read, or over the empty one.
use Rattle.book.proofs.Empty.{represents_empty}
use Rattle.gate.proofs.Records.{opened_refused}
use Rattle.gate.proofs.open.Goals as goal

pub returns-in-Err : goal.returns-in-Err
returns-in-Err c = opened_refused _ _ _ c.in-Err.ensures (rw c.empty.ensures at c.over-in-Err.ensures)

pub over-requires-in-Err : goal.over-requires-in-Err
over-requires-in-Err c = rw c.empty.ensures represents_empty.valid
