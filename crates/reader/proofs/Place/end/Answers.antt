-- The format's one test of 45 is the code's.
use Rattle.reader.proofs.Commands.{end_more, end_on}
use Rattle.reader.proofs.Place.end.Goals as goal

pub returns-then-next-self : goal.returns-then-next-self
returns-then-next-self c = search end_more

pub returns : goal.returns
returns c = search end_on
