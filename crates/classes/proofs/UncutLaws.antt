-- A book without its cuts is valid, and its history is relatively serializable exactly when the book's is conflict serializable.
use mathlib.Core.Path.{◌≡◌, ap}
use mathlib.Core.Logic.{◌↔◌}
use mathlib.Core.Bool.{Bool}
use mathlib.Core.List.{[]}
use Rattle.theory.specs.Relative.{ConflictSerializable, RelativelySerializable}
use Rattle.theory.specs.Deck.{unit}
use Rattle.theory.proofs.DeckLaws.{uncut}
use Rattle.book.specs.Format.{Contents}
use Rattle.book.specs.Meaning.{conflict_of, unit_of}
use Rattle.book.specs.Book.{contents_of, empty_book, Valid}
use Rattle.book.specs.declared.Book.{Book}
use Rattle.book.proofs.Books.{valid_cuts}
use Rattle.book.proofs.Empty.{represents_empty}
use Rattle.theory.specs.Answers.{Answers}
use Rattle.classes.specs.Inner.Books.{without_cuts}

pub valid_uncut : (b u : Book) → Valid b → u ≡ without_cuts b → Valid u
unfolding empty_book
valid_uncut b u v is = rw is (valid_cuts b _ v represents_empty.valid.cuts)

-- its contents have no cuts
no_cuts : (b : Book) → (contents_of (without_cuts b)).cuts ≡ []
unfolding contents_of empty_book
no_cuts b = ap (λ (c : Contents). c.cuts) represents_empty.contents

abbrev Passes : Book → Bool → Type 0
Passes u t = Answers (RelativelySerializable (conflict_of (contents_of u)) (unit_of (contents_of u)) (contents_of u).history) t

pub uncut_answer : (b u : Book) → u ≡ without_cuts b → (t : Bool) → Passes u t → Answers (ConflictSerializable (conflict_of (contents_of b)) (contents_of b).history) t
unfolding contents_of
uncut_answer b u is t a = record { sound = λ e. lemma.0 (passes.sound e); complete = λ s. passes.complete (lemma.1 s) }
  where
    passes : Answers (RelativelySerializable (conflict_of (contents_of b)) (unit []) (contents_of b).history) t
    passes = rw (no_cuts b) at (rw is at a)

    lemma : RelativelySerializable (conflict_of (contents_of b)) (unit []) (contents_of b).history ↔ ConflictSerializable (conflict_of (contents_of b)) (contents_of b).history
    lemma = uncut (contents_of b).pairs (contents_of b).runs (contents_of b).history
