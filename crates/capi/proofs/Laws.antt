-- The numbers of a reading.
use mathlib.Core.Path.{◌≡◌, ap, sym}
use mathlib.Core.List.{List}
use Prim.Native.Nat.{ℕ}
use Rattle.book.specs.Numbers.{value_of, reading_numbers}
use Rattle.book.specs.Format.{read}
use Rattle.book.specs.Book.{AcceptedAs}
use Rattle.book.specs.declared.Book.{Book}
use Rattle.book.proofs.Books.{history_long}

pub accepted_numbers : (s : List ℕ) (b : Book) → AcceptedAs (read s) b → value_of b.done ≡ reading_numbers (read s)
accepted_numbers s b h = rw h.outcome (ap value_of (sym (history_long b h.valid)))
