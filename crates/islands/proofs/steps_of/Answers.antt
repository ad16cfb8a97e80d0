-- The history of the book with the island's steps, or the refusal.
use Rattle.islands.proofs.Calls.{steps_found, steps_none}
use Rattle.islands.proofs.steps_of.Goals as goal

pub returns-in_err-flags : goal.returns-in_err-flags
returns-in_err-flags c = steps_none _ _ _ c.in_err-flags.ensures _ c.from_residual.ensures.1

pub returns : goal.returns
returns c = steps_found _ _ _ c.in_ok-flags.ensures _ c.leave_out-part.ensures
