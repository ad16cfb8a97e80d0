-- Dependence while the history is read (document 02, changes 3 and 6): after each step read, the rows so far mark exactly the earlier places
-- each step depends on, the rows to come mark nothing, and earlier rows don't change again.
use Rattle.std.specs.Prelude.{ℕ, ◌/◌, ◌≤◌, ◌<◌, ◌≡◌, ◌≢◌, Bool, true, false, List, [], ◌∷◌, ◌++◌, length, get_or}
use Rattle.bits.specs.Table.{row_words, row_bits, rows, bit_at}
use Rattle.theory.specs.History.{count}
use Rattle.theory.specs.Deck.{Pair, Touch, Step, step_of, conflict}
use Rattle.theory.specs.Transfers.{TouchOf}
use Rattle.theory.specs.Relative.{Depends}
use Rattle.theory.specs.Answers.{Answers}
use Rattle.book.specs.Format.{kind_limit, run_limit, step_limit}
use Rattle.book.specs.Book.{pairs_of}
use Rattle.dependence.specs.Marks.{Marks}
use Rattle.dependence.specs.Catalogue.{first_touches, second_touches, Catalogued}

-- t marks nothing: the tables before the first step
pub record Blank (t : List ℕ) : Type 0 where
  pub none : (x y : ℕ) → x < row_bits → y < rows → bit_at t y x ≡ 0

-- the tables after the steps of h were read: the catalogues of the first and of the second touches, and the rows
pub record StepsRead (pairs : List Pair) (runs : List (List Step)) (h catalogue seconds dep : List ℕ) : Type 0 where
  -- the rows so far mark exactly the earlier places each step depends on
  pub so_far : Marks (Depends (conflict pairs runs) h) dep
  -- the rows to come mark nothing
  pub to_come : (x y : ℕ) → x < row_bits → length h ≤ y → y < rows → bit_at dep y x ≡ 0
  pub firsts_catalogued : Catalogued pairs first_touches runs h catalogue
  pub seconds_catalogued : Catalogued pairs second_touches runs h seconds

-- reading x as place q, the next step of run r, after the steps of any history: the tables are those after one step more
pub record StepRead (pairs catalogue catalogue' seconds seconds' dep dep' : List ℕ) (q r : ℕ) (x : Step) : Type 0 where
  pub read : (runs : List (List Step)) (h : List ℕ) → length h ≡ q → step_of runs r (count h r) ≡ x
      → StepsRead (pairs_of pairs) runs h catalogue seconds dep → StepsRead (pairs_of pairs) runs (h ++ r ∷ []) catalogue' seconds' dep'
  -- every row but q has the same words as before
  pub unchanged : (i : ℕ) → i / row_words ≢ q → get_or dep' i 0 ≡ get_or dep i 0

-- there is a kind of each touch
pub record KindsLow (x : Step) : Type 0 where
  pub low : (t : Touch) → TouchOf x t → t.kind < kind_limit

-- there is a place q, a run r and a kind of each touch of x
pub record InRange (q r : ℕ) (x : Step) : Type 0 where
  pub place : q < step_limit
  pub run : r < run_limit
  pub kinds : KindsLow x

-- what a call says: whether they are in range; if so the step is read, if not nothing changes
pub record StepAnswered (pairs catalogue catalogue' seconds seconds' dep dep' : List ℕ) (q r : ℕ) (x : Step) (answer : Bool) : Type 0 where
  pub in_range : Answers (InRange q r x) answer
  pub read : answer ≡ true → StepRead pairs catalogue catalogue' seconds seconds' dep dep' q r x
  pub same_catalogue : answer ≡ false → catalogue' ≡ catalogue
  pub same_seconds : answer ≡ false → seconds' ≡ seconds
  pub same_rows : answer ≡ false → dep' ≡ dep
