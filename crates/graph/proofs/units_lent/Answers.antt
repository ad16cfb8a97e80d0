-- The flags of the cuts make the units of the book's contents.
use Rattle.dependence.proofs.BookTables.{book_history}
use Rattle.graph.proofs.BookTables.{book_counted, book_units}
use Rattle.graph.proofs.units_lent.Goals as goal

pub number_places-requires : goal.number_places-requires
number_places-requires c = search book_history

pub invariant_of-numbered : goal.invariant_of-numbered
invariant_of-numbered c = search (book_history, book_counted)

pub returns : goal.returns
returns c = search book_units
