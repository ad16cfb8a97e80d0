-- A book without its cuts.
use Rattle.std.specs.Prelude.{replicate}
use Rattle.book.specs.Book.{cuts_size, set_cuts}
use Rattle.book.specs.declared.Book.{Book}

-- the book without its cuts
abbrev pub without_cuts : Book → Book
without_cuts b = set_cuts b (replicate cuts_size 0)
