-- What a call that reads a book and answers yes or no says: the reader's refusal, or whether the contents have a property (document
-- 01, "When something is turned away" and "Class tests, evidence, writer, program").
use Rattle.std.specs.Prelude.{Result, Ok, Err, ℕ, ◌≡◌, Bool, true, false, List}
use Rattle.book.specs.Format.{Contents, Outcome, refused, accepted, read}
use Rattle.book.specs.Numbers.{Numbers, refused_with, numbers_of}
use Rattle.book.specs.Book.{refusal_at}
use Rattle.book.specs.declared.Cause.{Cause}
use Rattle.book.specs.declared.Refusal.{Refusal}

-- a refusal, or yes or no
abbrev pub Tested : Type 0
Tested = Result Bool Refusal

abbrev pub Yes : Tested
Yes = Ok true

abbrev pub No : Tested
No = Ok false

-- yes is 1, no is 0
abbrev pub yes_value : Bool → ℕ
yes_value true = 1
yes_value false = 0

-- each case in numbers
abbrev pub tested_numbers : Tested → Numbers
tested_numbers = numbers_of yes_value

-- P holds exactly where the answer is yes
abbrev pub YesWhere : Type 0 → Tested → Type 0
YesWhere P (Err e) = ⊥
YesWhere P (Ok true) = P
YesWhere P (Ok false) = ¬ P

-- a book that is refused: the same cause, number and place
pub record TestRefused (cause : Cause) (place : ℕ) (r : Tested) : Type 0 where
  pub refusal : r ≡ Err (refusal_at cause place)
  pub numbers : tested_numbers r ≡ refused_with cause place

abbrev pub OutcomeTested : Outcome → (Contents → Type 0) → Tested → Type 0
OutcomeTested (refused cause place) P r = TestRefused cause place r
OutcomeTested (accepted c) P r = YesWhere (P c) r

-- r is what a test of a book's bytes s says, whether its contents have the property P
pub record TestedAs (P : Contents → Type 0) (s : List ℕ) (r : Tested) : Type 0 where
  pub tested : OutcomeTested (read s) P r
