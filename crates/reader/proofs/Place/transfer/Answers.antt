-- Where bytes are missing, the first row of the format's table of tests fails.
use mathlib.Core.Path.{ap, ◌∙◌}
use Rattle.std.proofs.Common.{Err}
use Rattle.book.proofs.Refusals.{passed_on}
use Rattle.reader.proofs.Commands.{transfer_short}
use Rattle.reader.proofs.Place.transfer.Goals as goal

pub returns-in_err-k : goal.returns-in_err-k
returns-in_err-k c = transfer_short _ _ _ c.in_err-k.ensures.0 _ (passed_on _ _ c.from_residual.ensures.1 ∙ ap Err c.in_err-k.ensures.1)
