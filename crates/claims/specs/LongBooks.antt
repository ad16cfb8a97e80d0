-- Which limit a long book broke (document 02, change 1): the numbers from before the change, and that the refusals of `read` have them but for 30 and 31.
-- The tests, their order and their places were not changed; the statements here are of today's `read`, by the earlier numbers.
use Rattle.std.specs.Prelude.{ℕ, ◌≡◌, ◌≢◌, Bool, ◌||◌, List, length, eqb}
use Rattle.book.specs.Format.{Outcome, refused, accepted, pick, read}
use Rattle.book.specs.Numbers.{number, Numbers, value_of, reading_numbers}
use Rattle.book.specs.declared.Cause.{Cause}
use Rattle.book.specs.declared.Cause.TheVariants.{TooManyRuns, RunTooLong, TooManySteps}
use Rattle.table.specs.BookTable.{BookRow, NoRow}

-- whether the cause is the other: each has a number of its own
abbrev pub is : Cause → Cause → Bool
is cause other = eqb (number cause) (number other)

-- the number of a cause: 8 for the 33rd step of a run and the 129th step of the book, as it is for the 17th run; else as it is
abbrev pub number_before : Cause → ℕ
number_before cause = pick (is cause RunTooLong || is cause TooManySteps) 8 (number cause)

-- a refusal with this number, at this place
abbrev pub refusal : ℕ → ℕ → Numbers
refusal n place = record { number = n; place = place; value = 0 }

-- what reading a book answers by the earlier numbers
abbrev pub numbers_before : Outcome → Numbers
numbers_before (refused cause place) = refusal (number_before cause) place
numbers_before (accepted c) = value_of (length c.history)

pub record LongBooks : Type 0 where
  -- Number 8 is left for the seventeenth run only.
  pub left_for_runs : (cause : Cause) → number cause ≡ 8 → cause ≡ TooManyRuns
  -- The numbers differ at the 33rd step of a run and the 129th step of the book alone.
  pub other_causes : (cause : Cause) → cause ≢ RunTooLong → cause ≢ TooManySteps → number_before cause ≡ number cause
  -- By the earlier numbers 30 and 31 are 8, at the same place;
  pub was_8_of_30 : (s : List ℕ) (place : ℕ) → BookRow s 30 place → numbers_before (read s) ≡ refusal 8 place
  pub was_8_of_31 : (s : List ℕ) (place : ℕ) → BookRow s 31 place → numbers_before (read s) ≡ refusal 8 place
  -- every other refusal has the same number and place,
  pub refused_before : (s : List ℕ) (n place : ℕ) → n ≢ 30 → n ≢ 31 → BookRow s n place → numbers_before (read s) ≡ refusal n place
  -- and an accepted book is accepted.
  pub accepted_before : (s : List ℕ) → NoRow s → numbers_before (read s) ≡ reading_numbers (read s)
