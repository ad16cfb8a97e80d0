-- What the arc test says: the reader's refusal, or the names of the arcs from one place to another (document 01, "When something is turned away";
-- document 02, change 5).
use Rattle.std.specs.Prelude.{Result, Ok, Err, ℕ, ◌≡◌, List}
use Rattle.book.specs.Format.{Contents, Outcome, refused, accepted, read}
use Rattle.book.specs.Numbers.{Numbers, refused_with, numbers_of}
use Rattle.book.specs.Book.{refusal_at}
use Rattle.book.specs.declared.Cause.{Cause}
use Rattle.book.specs.declared.Refusal.{Refusal}
use Rattle.names.specs.Names.{names_value}
use Rattle.names.specs.declared.ArcNames.{ArcNames}

-- a refusal, or the names
abbrev pub Named : Type 0
Named = Result ArcNames Refusal

-- each case in numbers: the names by their value
abbrev pub named_numbers : Named → Numbers
named_numbers = numbers_of names_value

-- a book that is refused: the same cause, number and place
pub record NameRefused (cause : Cause) (place : ℕ) (r : Named) : Type 0 where
  pub refusal : r ≡ Err (refusal_at cause place)
  pub numbers : named_numbers r ≡ refused_with cause place

abbrev pub OutcomeNamed : Outcome → (Contents → ArcNames) → Named → Type 0
OutcomeNamed (refused cause place) N r = NameRefused cause place r
OutcomeNamed (accepted c) N r = r ≡ Ok (N c)

-- r is what the arc test of a book's bytes s says, where N names the arcs of its contents
pub record NamedAs (N : Contents → ArcNames) (s : List ℕ) (r : Named) : Type 0 where
  pub named : OutcomeNamed (read s) N r
