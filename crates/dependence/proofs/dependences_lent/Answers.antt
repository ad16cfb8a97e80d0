-- The rows so far, after the last step, are those of the whole history.
use Rattle.dependence.proofs.DependenceRows.{blank_zeros}
use Rattle.dependence.proofs.BookTables.{book_history, book_room, book_steps, book_dependences}
use Rattle.dependence.proofs.dependences_lent.Goals as goal

pub read_steps-requires : goal.read_steps-requires
read_steps-requires c = (search book_history, search book_room, search book_steps, search blank_zeros, search blank_zeros, search blank_zeros)

pub returns : goal.returns
returns c = search book_dependences
