-- One pass over the history (document 02, changes 3 and 6), as a statement about the tables that a controller holds and hands from one call of
-- `dependence::read_step` to the next.
use Rattle.std.specs.Prelude.{ℕ, ◌/◌, ◌≤◌, ◌<◌, ◌≡◌, List, [], ◌∷◌, ◌++◌, length, get_or}
use Rattle.bits.specs.Table.{row_words, row_bits, rows, bit_at}
use Rattle.theory.specs.History.{count}
use Rattle.theory.specs.Deck.{Step, step_of, conflict}
use Rattle.theory.specs.Relative.{Depends}
use Rattle.book.specs.Book.{pairs_of}
use Rattle.dependence.specs.Marks.{Marks}
use Rattle.dependence.specs.Dependence.{Blank, StepRead}

-- from the two catalogues and the rows after the steps of h to those after the steps of a longer history, call after call: each reads the next step of
-- some run, and does what it promises
pub data Fed (pairs : List ℕ) (runs : List (List Step)) (h catalogue seconds dep : List ℕ) : List ℕ → List ℕ → List ℕ → List ℕ → Type 0 where
  no_more : Fed pairs runs h catalogue seconds dep h catalogue seconds dep
  one_more : {l c s d c' s' d' : List ℕ} {r : ℕ} → Fed pairs runs h catalogue seconds dep l c s d
      → StepRead pairs c c' s s' d d' (length l) r (step_of runs r (count l r)) → Fed pairs runs h catalogue seconds dep (l ++ r ∷ []) c' s' d'

-- the rows d after the steps of l
pub record RowsAfter (pairs : List ℕ) (runs : List (List Step)) (l d : List ℕ) : Type 0 where
  -- the rows so far mark exactly the earlier places each step depends on,
  pub so_far : Marks (Depends (conflict (pairs_of pairs) runs) l) d
  -- the rows to come mark nothing,
  pub to_come : (x y : ℕ) → x < row_bits → length l ≤ y → y < rows → bit_at d y x ≡ 0

pub record OnePass : Type 0 where
  -- After each step read
  pub each_step : (pairs : List ℕ) (runs : List (List Step)) (catalogue seconds dep l c s d : List ℕ) → Blank catalogue → Blank seconds → Blank dep
      → Fed pairs runs [] catalogue seconds dep l c s d → RowsAfter pairs runs l d
  -- and earlier rows don't change again: whatever is read after the steps of h, the words of their rows stay as they are
  pub unchanged : (pairs : List ℕ) (runs : List (List Step)) (h catalogue seconds dep l c s d : List ℕ) → Fed pairs runs h catalogue seconds dep l c s d
      → (i : ℕ) → i / row_words < length h → get_or d i 0 ≡ get_or dep i 0
