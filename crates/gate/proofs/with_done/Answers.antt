-- `with_done` is right: it is the reader's own addition of a done step, for which run r has room.
use Rattle.gate.proofs.Records.{step_place, step_count, step_book}
use Rattle.gate.proofs.with_done.Goals as goal

pub bounds-b-b : goal.bounds-b-b
bounds-b-b c = search step_place

pub overflow_add-b-2 : goal.overflow_add-b-2
overflow_add-b-2 c = search step_count

pub returns : goal.returns
returns c = search step_book
