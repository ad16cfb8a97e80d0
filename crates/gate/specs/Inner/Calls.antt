-- What the gate's own functions promise each other.
use Rattle.std.specs.Prelude.{ℕ, ◌≡◌, []}
use Rattle.book.specs.Format.{Contents, with_history}
use Rattle.book.specs.Book.{Valid}
use Rattle.book.specs.Inner.Room.{RoomDone}
use Rattle.book.specs.declared.Book.{Book}
use Rattle.plain.specs.Plain.{newly_opened}
use Rattle.gate.specs.Gate.{book_of, state_of, Sound}
use Rattle.gate.specs.declared.Gate.{Gate}

-- a gate of a book with contents c, to which no call was made
pub record NewlyOpened (c : Contents) (g : Gate) : Type 0 where
  pub book : book_of g ≡ with_history c []
  pub state : state_of g ≡ newly_opened
  pub sound : Sound g

-- run r has a step left
pub record StepLeft (b : Book) (r : ℕ) : Type 0 where
  pub valid : Valid b
  pub room : RoomDone b.lengths b.counts b.declared r
