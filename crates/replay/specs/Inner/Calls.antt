-- What the replay's own functions promise each other.
use Rattle.std.specs.Prelude.{Ok, ℕ, ◌*◌, ◌≤◌, ◌<◌, ◌≡◌, List, ◌++◌, length, drop}
use Rattle.plain.specs.Plain.{Call, Answer}
use Rattle.gate.specs.Gate.{Replied, Sound}
use Rattle.gate.specs.Chain.{Chain}
use Rattle.gate.specs.declared.Gate.{Gate}
use Rattle.gate.specs.declared.Reply.TheVariants.{Place}
use Rattle.replay.specs.Replay.{answers_bytes}

-- a place fits a byte
pub record Low (a : Replied) : Type 0 where
  pub place_low : (p : ℕ) → a ≡ Ok (Place p) → p < 256

-- a record, and room for two bytes a call
pub record AnswersRoom (g : Gate) (xs : List Call) (buffer : List ℕ) : Type 0 where
  pub sound : Sound g
  pub room : 2 * length xs ≤ length buffer

-- calls made in turn on g, which leave h and their answers' bytes in the buffer
pub record Plays (g : Gate) (xs : List Call) (before after : List ℕ) (h : Gate) : Type 0 where
  pub answers : List Answer
  pub chain : Chain g xs answers h
  pub buffer : after ≡ answers_bytes answers ++ drop (2 * length xs) before
  pub sound : Sound h
