-- Where bytes are missing, the first row of the format's table of tests fails.
use mathlib.Core.Path.{ap, ◌∙◌}
use Rattle.std.proofs.Common.{Err}
use Rattle.book.proofs.Refusals.{passed_on}
use Rattle.reader.proofs.Commands.{single_short}
use Rattle.reader.proofs.Place.single.Goals as goal

pub returns-in_err-kind : goal.returns-in_err-kind
returns-in_err-kind c = single_short _ _ _ c.in_err-kind.ensures.0 _ (passed_on _ _ c.from_residual.ensures.1 ∙ ap Err c.in_err-kind.ensures.1)
