-- The arrays that the code makes are those of `empty_book`.
use Rattle.book.specs.Book.{empty_book}
use mathlib.Core.Path.{refl}
use Rattle.book.proofs.Book.empty.Goals as goal

pub returns : goal.returns
unfolding empty_book
returns c = refl
