-- The contents read have as many done steps as the book.
use Rattle.capi.proofs.Laws.{accepted_numbers}
use Rattle.capi.proofs.done_steps.Goals as goal

pub returns : goal.returns
returns c = accepted_numbers _ _ c.in_ok-b.ensures
