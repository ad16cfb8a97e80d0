-- The rows after the last step are those of the whole history, and so is the catalogue.
use Rattle.dependence.proofs.DependenceRows.{blank_zeros}
use Rattle.dependence.proofs.BookTables.{book_history, book_room, book_steps, book_links, linked_run_rows}
use Rattle.dependence.proofs.run_links_lent.Goals as goal

pub link_steps-requires : goal.link_steps-requires
link_steps-requires c = (search book_history, search book_room, search book_steps, search blank_zeros, search blank_zeros, search blank_zeros)

pub returns : goal.returns
returns c = record { run_rows = search linked_run_rows; marks = search book_links }
