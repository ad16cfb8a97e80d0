-- A valid book's history and tables, as the tests over tables take them, and what those tests then say of the book's contents.
use Rattle.std.specs.Prelude.{Ok}
use Prim.Native.Nat.{ℕ}
use mathlib.Core.Path.{refl}
use mathlib.Core.Bool.{Bool, true, false}
use mathlib.Core.List.{List}
use lib.ListN.{take}
use Rattle.theory.specs.History.{Serial}
use Rattle.theory.specs.Relative.{Depends, RelativelyAtomic, RelativelySerial}
use Rattle.book.specs.Format.{Contents, read}
use Rattle.book.specs.Meaning.{conflict_of, unit_of}
use Rattle.book.specs.Book.{contents_of, Valid, AcceptedAs}
use Rattle.book.specs.declared.Book.{Book}
use Rattle.theory.specs.Answers.{Answers}
use Rattle.theory.proofs.Answered.{refute}
use Rattle.dependence.specs.Marks.{Marks}
use Rattle.graph.specs.Units.{UnitTables}
use Rattle.dependence.proofs.BookTables.{book_history}
use Rattle.graph.proofs.ArcMarks.{rowed}
use Rattle.graph.specs.Inner.Arcs.{Rowed}
use Rattle.classes.specs.Tested.{TestedAs}
use Rattle.classes.specs.Inner.Tables.{AtomicBy, RelativelySerialBy}

module _ (b : Book) (v : Valid b) where
  module _ (t : Bool) where
    pub book_serial : Answers (Serial (take b.done b.history)) t → Answers (Serial (contents_of b).history) t
    unfolding contents_of
    book_serial a = a

    module _ (firsts₀ firsts lasts₀ lasts : List ℕ) (u : UnitTables (unit_of (contents_of b)) (contents_of b).history firsts₀ firsts lasts₀ lasts) where
      pub book_atomic : AtomicBy b.history b.done firsts t → Answers (RelativelyAtomic (unit_of (contents_of b)) (contents_of b).history) t
      unfolding contents_of
      book_atomic a = a.answers (unit_of (contents_of b)) u.firsts_are

      pub book_relatively_serial : (dep : List ℕ) → Marks (Depends (conflict_of (contents_of b)) (contents_of b).history) dep
          → RelativelySerialBy b.history b.done firsts lasts dep t → Answers (RelativelySerial (conflict_of (contents_of b)) (unit_of (contents_of b)) (contents_of b).history) t
      unfolding contents_of
      book_relatively_serial dep m a = a.answers (conflict_of (contents_of b)) (unit_of (contents_of b)) m u.firsts_are u.lasts_are

  module _ (firsts₀ firsts lasts₀ lasts : List ℕ) (u : UnitTables (unit_of (contents_of b)) (contents_of b).history firsts₀ firsts lasts₀ lasts) where
    pub book_firsts : Rowed b.done firsts
    unfolding contents_of
    book_firsts = rowed b.history b.done firsts (book_history b v) (λ o p f e. e.inside) u.firsts_are

    pub book_lasts : Rowed b.done lasts
    unfolding contents_of
    book_lasts = rowed b.history b.done lasts (book_history b v) (λ o p f e. e.inside) u.lasts_are

-- ---- what a test says

-- the answer of a test of the book that was read is that of its bytes
pub tested : (P : Contents → Type 0) (s : List ℕ) (b : Book) → AcceptedAs (read s) b → (t : Bool) → Answers (P (contents_of b)) t → TestedAs P s (Ok t)
tested P s b h true a = record { tested = rw h.outcome (a.sound refl) }
tested P s b h false a = record { tested = rw h.outcome (refute a refl) }
