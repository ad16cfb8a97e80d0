-- Each way out has the kinds of the step that x is.
use Rattle.book.proofs.Codes.{single_kinds, transfer_kinds}
use Rattle.book.proofs.kinds_low.Goals as goal

pub returns-in-Single : goal.returns-in-Single
returns-in-Single c = search single_kinds

pub returns-in-Transfer : goal.returns-in-Transfer
returns-in-Transfer c = search transfer_kinds
