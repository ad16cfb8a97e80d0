-- The number of each cause of refusal (document 01, "When something is turned away"; document 02, changes 1, 7 and 8), and an answer in numbers.
use Rattle.std.specs.Prelude.{Result, Ok, Err, ℕ, ◌≡◌, length}
use Rattle.book.specs.Format.{Outcome, refused, accepted}
use Rattle.book.specs.declared.Cause.{Cause}
use Rattle.book.specs.declared.Refusal.{Refusal}
use Rattle.book.specs.declared.Cause.TheVariants.{BookTooLong, NoCommand, EndsEarly, OutOfOrder, WrongKind, NotRising, WrongRun, TooManyRuns, RunTooLong, TooManySteps, WrongCut, NoStepLeft, BytesAfterEnd, JudgeBufferShort, WriterBufferShort, NotDeclared, Withdrawn, AllKept, Tangled, NoCall, AnswersShort, Damaged, NoIsland, TakenBack}

abbrev pub number : Cause → ℕ
number BookTooLong = 1
number NoCommand = 2
number EndsEarly = 3
number OutOfOrder = 4
number WrongKind = 5
number NotRising = 6
number WrongRun = 7
number TooManyRuns = 8
number RunTooLong = 30
number TooManySteps = 31
number WrongCut = 9
number NoStepLeft = 10
number BytesAfterEnd = 11
number JudgeBufferShort = 12
number WriterBufferShort = 13
number NotDeclared = 20
number Withdrawn = 21
number AllKept = 22
number Tangled = 23
number NoCall = 24
number AnswersShort = 25
number Damaged = 26
number NoIsland = 27
number TakenBack = 32

-- each cause has a number of its own
abbrev pub OwnNumbers : Type 0
OwnNumbers = (cause cause' : Cause) → number cause ≡ number cause' → cause ≡ cause'

-- an answer in numbers: the number of a refusal or 0, its place or 0, and what the call answers or 0
pub record Numbers : Type 0 where
  pub number : ℕ
  pub place : ℕ
  pub value : ℕ

-- a refusal: its number and place
abbrev pub refused_with : Cause → ℕ → Numbers
refused_with cause place = record { number = number cause; place = place; value = 0 }

-- a call that was carried out: what it answers
abbrev pub value_of : ℕ → Numbers
value_of n = record { number = 0; place = 0; value = n }

-- a reading answers an accepted book's number of done steps
abbrev pub reading_numbers : Outcome → Numbers
reading_numbers (refused cause place) = refused_with cause place
reading_numbers (accepted c) = value_of (length c.history)

-- a call's answer in numbers, where v is the value of what it answers if it is not refused
abbrev pub numbers_of : {A : Type 0} → (A → ℕ) → Result A Refusal → Numbers
numbers_of v (Ok x) = value_of (v x)
numbers_of v (Err e) = refused_with e.cause e.place

-- of a call that answers no number, but what is handed back by itself
abbrev pub answer_numbers : {A : Type 0} → Result A Refusal → Numbers
answer_numbers = numbers_of (λ x. 0)
