-- The judge of the book with the island's steps, or the refusal.
use Rattle.islands.proofs.Calls.{part_judged, part_none}
use Rattle.islands.proofs.judge_part.Goals as goal

pub returns-in_err-flags : goal.returns-in_err-flags
returns-in_err-flags c = part_none _ _ _ c.in_err-flags.ensures _ _ _ c.from_residual.ensures.1

pub returns : goal.returns
returns c = search (part_judged, c.in_ok-flags.ensures, c.leave_out-part.ensures)
