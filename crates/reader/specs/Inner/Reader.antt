-- What the reader's own functions promise each other. No part of the statement of `read`.
use Rattle.std.specs.Prelude.{ℕ, ◌+◌, ◌-◌, ◌≤◌, ◌<◌, ◌≡◌, List, Result, Ok, Err, length, get_or}
use Rattle.theory.specs.Deck.{single, transfer, Step as DeckStep}
use Rattle.book.specs.Format.{position_limit, run_limit, step_limit, length_limit, ReadState, Move, on, over, refused, accepted, Command, pair, run, step, cut, done, width, next_state, obeyed, obey, command_at}
use Rattle.book.specs.Book.{set_counts, pairs_size, cuts_size, pair_of, cut_of, step_coded, as_step, contents_of, Valid}
use Rattle.book.specs.Inner.Room.{Next, RoomFlag, RoomStep, RoomDone}
use Rattle.book.specs.declared.Rules.{Rules}
use Rattle.book.specs.declared.Step.{Step as StepValue}
use Rattle.book.specs.declared.Book.{Book}
use Rattle.reader.specs.declared.Progress.{Progress}
use Rattle.book.specs.declared.Cause.{Cause}
use Rattle.book.specs.declared.Refusal.{Refusal}
use Rattle.reader.specs.declared.Command.{Command as CommandValue}
use Rattle.reader.specs.declared.Command.TheVariants.{Pair, Run, Step, Cut, Done, End}

-- what a command's function answers
abbrev pub Parsed : Type 0
Parsed = Result CommandValue Refusal

abbrev pub refusal : Cause → ℕ → Refusal
refusal c i = record { cause = c; place = i }

abbrev pub progress : Rules → ℕ → ℕ → ℕ → ℕ → ℕ → ℕ → ℕ → Progress
progress ρ g i j l d t k = record { rules = ρ; group = g; next_pair = i; next_cut = j; last = l; declared = d; total = t; done = k }

abbrev pub at_start : Rules → Progress
at_start ρ = progress ρ 0 0 0 0 0 0 0

-- the progress behind a command
abbrev pub past_pair : Progress → ℕ → Progress
past_pair p i = progress p.rules 0 (i + 1) p.next_cut p.last p.declared p.total p.done

abbrev pub past_run : Progress → Progress
past_run p = progress p.rules 1 p.next_pair p.next_cut 0 (p.declared + 1) p.total p.done

abbrev pub past_step : Progress → Progress
past_step p = progress p.rules 1 p.next_pair p.next_cut (p.last + 1) p.declared (p.total + 1) p.done

abbrev pub past_cut : Progress → ℕ → Progress
past_cut p i = progress p.rules 2 p.next_pair (i + 1) p.last p.declared p.total p.done

abbrev pub past_done : Progress → Progress
past_done p = progress p.rules 3 p.next_pair p.next_cut p.last p.declared p.total (p.done + 1)

-- the book of the tables so far, whose counts the progress has
abbrev pub so_far : Book → Progress → Book
so_far b p = set_counts b p.declared p.total p.done

-- where the format's reader stands
abbrev pub read_state_of : Book → Progress → ReadState
read_state_of b p = record { group = p.group; contents = contents_of (so_far b p) }

-- the tables and the progress of a reader on its way
pub record Underway (b : Book) (p : Progress) : Type 0 where
  pub valid : Valid (so_far b p)
  pub pairs : Next b.pairs p.next_pair
  pub cuts : Next b.cuts p.next_cut
  pub last : 0 < p.declared → p.last ≡ get_or b.lengths (p.declared - 1) 0
  pub group : p.group ≤ 3

-- which tables a command's function is lent: none, the runs' lengths, or these and the counts of done steps
abbrev pub Any : Book → Type 0
Any b = Unit {0}

pub record Lengths (ls : List ℕ) (b : Book) : Type 0 where
  pub lengths_are : b.lengths ≡ ls

pub record Tables (ls ns : List ℕ) (b : Book) : Type 0 where
  pub lengths_are : b.lengths ≡ ls
  pub counts_are : b.counts ≡ ns

-- the runs so far are within their limit, and the tables have room for the steps that the rules allow
pub record Limited (p : Progress) : Type 0 where
  pub few : p.declared ≤ run_limit
  pub steps : p.rules.step_limit ≤ step_limit

-- a command begins at the offset
pub record Inside (s : List ℕ) (at : ℕ) (p : Progress) : Type 0 where
  pub begun : at < length s
  pub limited : Limited p

-- the n bytes behind that at the offset
pub record Operands (s : List ℕ) (at n : ℕ) (bs : List ℕ) : Type 0 where
  pub there : n + 1 ≤ length s - at
  pub byte : (i : ℕ) → i < n → get_or bs i 0 ≡ get_or s (at + (i + 1)) 0

-- the move that a command stands for
abbrev pub move_of : Parsed → ℕ → ReadState → Move
move_of (Ok (Pair i)) at t = obeyed (pair (pair_of i)) at t
move_of (Ok Run) at t = obeyed (run (length t.contents.runs)) at t
move_of (Ok (Step c n)) at t = on (at + n) (next_state (step (step_coded c)) t)
move_of (Ok (Cut i)) at t = obeyed (cut (cut_of i)) at t
move_of (Ok (Done r)) at t = obeyed (done r) at t
move_of (Ok End) at t = over (accepted t.contents)
move_of (Err r) at t = over (refused r.cause r.place)

-- the bytes of a command; a refusal takes none
abbrev pub command_width : CommandValue → ℕ
command_width (Pair i) = width (pair (pair_of i))
command_width Run = width (run 0)
command_width (Step c n) = n
command_width (Cut i) = width (cut (cut_of i))
command_width (Done r) = width (done r)
command_width End = 1

abbrev pub width_of : Parsed → ℕ
width_of (Ok c) = command_width c
width_of (Err r) = 0

-- for a step of code c and n bytes
pub record StepRoom (b : Book) (p : Progress) (c n : ℕ) : Type 0 where
  pub room : RoomStep b.lengths p.declared p.total c
  pub wide : n ≡ width (step (step_coded c))

abbrev pub Room : Parsed → Book → Progress → Type 0
Room (Ok (Pair i)) b p = RoomFlag pairs_size p.next_pair i
Room (Ok Run) b p = p.declared < run_limit
Room (Ok (Step c n)) b p = StepRoom b p c n
Room (Ok (Cut i)) b p = RoomFlag cuts_size p.next_cut i
Room (Ok (Done r)) b p = RoomDone b.lengths b.counts p.declared r
Room (Ok End) b p = Unit {0}
Room (Err r) b p = Unit {0}

-- the command's move is the format's for all tables that are as the function was lent, there is room for it, and its bytes are there
pub record Decides (tables : Book → Type 0) (format : Rules → List ℕ → ℕ → ReadState → Move) (s : List ℕ) (at : ℕ) (p : Progress) (c : Parsed) : Type 0 where
  pub move : (b : Book) → Underway b p → tables b → move_of c at (read_state_of b p) ≡ format p.rules s at (read_state_of b p)
  pub room : (b : Book) → Underway b p → tables b → Room c b p
  pub ends : at ≤ length s → at + width_of c ≤ length s

-- the positions of a step are in range
abbrev pub PositionsLow : DeckStep → Type 0
PositionsLow (single t) = t.position < position_limit
PositionsLow (transfer t u) = (t.position < position_limit) × (u.position < position_limit)

-- the same, of the step x: for each command of the format that is x where it stands, and whose bytes are there
pub record StepTested (x : StepValue) (at : ℕ) (p : Progress) (c : Parsed) : Type 0 where
  pub decides : (f : List ℕ → ℕ → Command) (s : List ℕ) → f s at ≡ step (as_step x) → width (step (as_step x)) ≤ length s - at → Decides Any (obey f) s at p c

-- the reader stands within the bytes, which are no more than a book may have
pub record MayTake (s : List ℕ) (at : ℕ) (p : Progress) : Type 0 where
  pub within : at ≤ length s
  pub short : length s ≤ length_limit
  pub limited : Limited p

-- the command at the offset, and the offset behind it
pub record CommandReadAs (ls ns s : List ℕ) (at : ℕ) (p : Progress) (c : Parsed) (next : ℕ) : Type 0 where
  pub decides : Decides (Tables ls ns) command_at s at p c
  pub moved : next ≡ at + width_of c
