-- When the tables have room for one more. No part of a statement.
use Rattle.std.specs.Prelude.{ℕ, ◌+◌, ◌-◌, ◌≤◌, ◌<◌, ◌≡◌, List, [], ◌∷◌, get_or}
use Rattle.book.specs.Format.{kind_limit, position_limit, run_step_limit, step_limit}
use Rattle.theory.specs.Deck.{Touch, Step, single, transfer}
use Rattle.book.specs.Book.{code_limit, flagged}

-- one more than the last of a list, or 0
abbrev pub next_of : List ℕ → ℕ
next_of [] = 0
next_of (i ∷ []) = i + 1
next_of (i ∷ j ∷ js) = next_of (j ∷ js)

-- no flag stands from `next` on, which is behind the last one
pub record Next (flags : List ℕ) (next : ℕ) : Type 0 where
  pub clear : (i : ℕ) → next ≤ i → get_or flags i 0 ≡ 0
  pub last : next ≡ next_of (flagged 0 flags)

-- a table of flags has room for a flag above the ones before
pub record RoomFlag (limit next i : ℕ) : Type 0 where
  pub rising : next ≤ i
  pub low : i < limit

-- the touches of a step are in range
pub record TouchLow (t : Touch) : Type 0 where
  pub kind : t.kind < kind_limit
  pub position : t.position < position_limit

abbrev pub StepLow : Step → Type 0
StepLow (single t) = TouchLow t
StepLow (transfer t u) = TouchLow t × TouchLow u

-- runs have room for one more step of the last, of code c
pub record RoomStep (ls : List ℕ) (d t c : ℕ) : Type 0 where
  pub low : c < code_limit
  pub declared : 0 < d
  pub short : get_or ls (d - 1) 0 < run_step_limit
  pub few : t < step_limit

-- run r has a step left
pub record RoomDone (ls ns : List ℕ) (d r : ℕ) : Type 0 where
  pub declared : r < d
  pub left : get_or ns r 0 < get_or ls r 0
