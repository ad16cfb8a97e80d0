-- The table of first places is that of the book's units.
use Rattle.dependence.proofs.BookTables.{book_history}
use Rattle.classes.proofs.BookLaws.{book_firsts, book_lasts, book_atomic}
use Rattle.classes.proofs.is_relatively_atomic.Goals as goal

pub atomic_by-requires : goal.atomic_by-requires
atomic_by-requires c = (search book_history, search (book_firsts, book_lasts))

pub returns : goal.returns
returns c = search book_atomic
