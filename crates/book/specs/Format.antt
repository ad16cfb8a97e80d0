-- The format of a deck book, as one function from a list of bytes to an outcome: refused with cause and place, or accepted with the
-- book's contents (document 01, "Deck book" and "When something is turned away"; document 02, change 6). Each command has its bytes, its effect and a table of
-- tests in the documents' order (TestOrder); the first that fails refuses. The format is over its rules: the limits of steps and bytes, and the
-- commands that not every dialect has.
use Rattle.std.specs.Prelude.{ℕ, zero, suc, ◌+◌, ◌-◌, ◌*◌, ◌/◌, ◌%◌, ◌<◌, ◌≤◌, List, [], ◌∷◌, ◌++◌, Bool, true, false, ◌&&◌, not, length, get_or, ltb, leb, eqb}
use Rattle.theory.specs.Lists.{sum}
use Rattle.theory.specs.History.{count}
use Rattle.theory.specs.Deck.{Pair, Touch, Step, single, transfer, Cut}
use Rattle.book.specs.declared.Rules.{Rules}
use Rattle.book.specs.declared.Cause.{Cause}
use Rattle.book.specs.declared.Cause.TheVariants.{BookTooLong, NoCommand, EndsEarly, OutOfOrder, WrongKind, NotRising, WrongRun, TooManyRuns, RunTooLong, TooManySteps, WrongCut, NoStepLeft, BytesAfterEnd}

-- what a book holds, by its groups: conflicting pairs of kinds, runs of steps, cuts, and the history as run numbers
pub record Contents : Type 0 where
  pub pairs : List Pair
  pub runs : List (List Step)
  pub cuts : List Cut
  pub history : List ℕ

abbrev pub contents : List Pair → List (List Step) → List Cut → List ℕ → Contents
contents ps rs cs h = record { pairs = ps; runs = rs; cuts = cs; history = h }

abbrev pub nothing : Contents
nothing = contents [] [] [] []

-- the contents with another group
abbrev pub with_pairs : Contents → List Pair → Contents
with_pairs d ps = contents ps d.runs d.cuts d.history

abbrev pub with_runs : Contents → List (List Step) → Contents
with_runs d rs = contents d.pairs rs d.cuts d.history

abbrev pub with_cuts : Contents → List Cut → Contents
with_cuts d cs = contents d.pairs d.runs cs d.history

-- the book with k as its history: one 48 for each number in k, in k's order, and no other; its other commands are the book's
abbrev pub with_history : Contents → List ℕ → Contents
with_history d k = contents d.pairs d.runs d.cuts k

pub data Outcome : Type 0 where
  refused : Cause → ℕ → Outcome
  accepted : Contents → Outcome

-- the limits
abbrev pub kind_limit : ℕ
kind_limit = 16

abbrev pub position_limit : ℕ
position_limit = 65536

abbrev pub run_limit : ℕ
run_limit = 16

abbrev pub run_step_limit : ℕ
run_step_limit = 32

abbrev pub step_limit : ℕ
step_limit = 128

abbrev pub length_limit : ℕ
length_limit = 16384

-- the rules of deck books
abbrev pub deck_rules : Rules
deck_rules = record { step_limit = step_limit; length_limit = length_limit; has_cuts = true; has_transfers = true }

abbrev pub pick : {A : Type 0} → Bool → A → A → A
pick true a b = a
pick false a b = b

abbrev pub byte : List ℕ → ℕ → ℕ
byte s i = get_or s i 0

-- each number of the list is a byte
abbrev pub Bytes : List ℕ → Type 0
Bytes s = (i : ℕ) → get_or s i 0 < 256

abbrev pub last : List ℕ → ℕ
last [] = 0
last (x ∷ []) = x
last (x ∷ y ∷ ys) = last (y ∷ ys)

-- the number of steps of each run
abbrev pub lengths : List (List Step) → List ℕ
lengths [] = []
lengths (r ∷ rs) = length r ∷ lengths rs

-- each run stands in k at most as often as it has steps; a run that is not declared has none, so that k's numbers are declared runs
abbrev pub Allowed : List ℕ → Contents → Type 0
Allowed k c = (r : ℕ) → count k r ≤ get_or (lengths c.runs) r 0

-- ---- commands

pub data Command : Type 0 where
  pair : Pair → Command
  run : ℕ → Command
  step : Step → Command
  cut : Cut → Command
  done : ℕ → Command

-- kind, position: two bytes, high first
abbrev pub touch_bytes : Touch → List ℕ
touch_bytes t = t.kind ∷ t.position / 256 ∷ t.position % 256 ∷ []

-- 53 and a touch; 54 and two
abbrev pub step_bytes : Step → List ℕ
step_bytes (single t) = 0x53 ∷ touch_bytes t
step_bytes (transfer t u) = 0x54 ∷ (touch_bytes t ++ touch_bytes u)

-- 43, kinds a, b. 52, run r. 53 or 54. 42, run r, number j, run o. 48, run r
abbrev pub command_bytes : Command → List ℕ
command_bytes (pair p) = 0x43 ∷ p.a ∷ p.b ∷ []
command_bytes (run r) = 0x52 ∷ r ∷ []
command_bytes (step x) = step_bytes x
command_bytes (cut c) = 0x42 ∷ c.of_run ∷ c.after ∷ c.seen_by ∷ []
command_bytes (done r) = 0x48 ∷ r ∷ []

abbrev pub width : Command → ℕ
width c = length (command_bytes c)

-- the groups in their order
abbrev pub group_of : Command → ℕ
group_of (pair p) = 0
group_of (run r) = 1
group_of (step x) = 1
group_of (cut c) = 2
group_of (done r) = 3

-- a step at the end of the last run
abbrev pub add_last : List (List Step) → Step → List (List Step)
add_last [] x = []
add_last (r ∷ []) x = (r ++ x ∷ []) ∷ []
add_last (r ∷ q ∷ qs) x = r ∷ add_last (q ∷ qs) x

-- what a command adds
abbrev pub effect : Command → Contents → Contents
effect (pair p) d = with_pairs d (d.pairs ++ p ∷ [])
effect (run r) d = with_runs d (d.runs ++ [] ∷ [])
effect (step x) d = with_runs d (add_last d.runs x)
effect (cut c) d = with_cuts d (d.cuts ++ c ∷ [])
effect (done r) d = with_history d (d.history ++ r ∷ [])

-- ---- tests

-- a test: what has to hold, and the cause of the refusal where it does not
pub record Test : Type 0 where
  pub holds : Bool
  pub cause : Cause

abbrev pub test : Bool → Cause → Test
test b c = record { holds = b; cause = c }

-- pairs rise strictly: the new pair is above the last, compared left to right
abbrev pub above_pair : List Pair → Pair → Bool
above_pair [] q = true
above_pair (p ∷ []) q = pick (eqb p.a q.a) (ltb p.b q.b) (ltb p.a q.a)
above_pair (p ∷ p' ∷ ps) q = above_pair (p' ∷ ps) q

-- and so do cuts, as triples (r, j, o)
abbrev pub above_cut : List Cut → Cut → Bool
above_cut [] q = true
above_cut (p ∷ []) q =
    pick (eqb p.of_run q.of_run) (pick (eqb p.after q.after) (ltb p.seen_by q.seen_by) (ltb p.after q.after)) (ltb p.of_run q.of_run)
above_cut (p ∷ p' ∷ ps) q = above_cut (p' ∷ ps) q

-- the kind of each touch is below its limit
abbrev pub kinds_low : Step → Bool
kinds_low (single t) = ltb t.kind kind_limit
kinds_low (transfer t u) = ltb t.kind kind_limit && ltb u.kind kind_limit

-- the tests of a command behind those of its bytes and its group: of its operands, of the limits, and of 53 or 54 before any 52
unfoldable pub operand_tests : Rules → Contents → Command → List Test
operand_tests ρ d (pair p) =
    test (ltb p.b kind_limit) WrongKind
    ∷ test (leb p.a p.b) WrongKind
    ∷ test (above_pair d.pairs p) NotRising
    ∷ []
operand_tests ρ d (run r) =
    test (eqb r (length d.runs)) WrongRun
    ∷ test (ltb (length d.runs) run_limit) TooManyRuns
    ∷ []
operand_tests ρ d (step x) =
    test (ltb 0 (length d.runs)) OutOfOrder
    ∷ test (kinds_low x) WrongKind
    ∷ test (ltb (last (lengths d.runs)) run_step_limit) RunTooLong
    ∷ test (ltb (sum (lengths d.runs)) ρ.step_limit) TooManySteps
    ∷ []
operand_tests ρ d (cut c) =
    test (ltb c.of_run (length d.runs)) WrongRun
    ∷ test (ltb c.seen_by (length d.runs)) WrongRun
    ∷ test (not (eqb c.of_run c.seen_by)) WrongRun
    ∷ test (ltb 0 c.after) WrongCut
    ∷ test (ltb c.after (get_or (lengths d.runs) c.of_run 0)) WrongCut
    ∷ test (above_cut d.cuts c) NotRising
    ∷ []
operand_tests ρ d (done r) =
    test (ltb r (length d.runs)) WrongRun
    ∷ test (ltb (count d.history r) (get_or (lengths d.runs) r 0)) NoStepLeft
    ∷ []

-- ---- reading

-- how far a book has been read: the group of the last command, and the contents so far
pub record ReadState : Type 0 where
  pub group : ℕ
  pub contents : Contents

-- what one command does: reading goes on at an offset with a state, or is over
pub data Move : Type 0 where
  on : ℕ → ReadState → Move
  over : Outcome → Move

abbrev pub check : Bool → Cause → ℕ → Move → Move
check true c at m = m
check false c at m = over (refused c at)

-- the first test that fails refuses, and the place is the command's offset; else comes m
abbrev pub checks : List Test → ℕ → Move → Move
checks [] at m = m
checks (t ∷ ts) at m = check t.holds t.cause at (checks ts at m)

-- the tests of a command at an offset: its bytes are there, no later group was begun, and those of its operands
abbrev pub command_tests : Rules → List ℕ → ℕ → ReadState → Command → List Test
command_tests ρ s at t c = test (leb (width c) (length s - at)) EndsEarly ∷ test (leb t.group (group_of c)) OutOfOrder ∷ operand_tests ρ t.contents c

-- the state behind a command
abbrev pub next_state : Command → ReadState → ReadState
next_state c t = record { group = group_of c; contents = effect c t.contents }

-- a command behind which reading goes on
abbrev pub obeyed : Command → ℕ → ReadState → Move
obeyed c at t = on (at + width c) (next_state c t)

-- the commands that the bytes at an offset are, by the first of them
abbrev pub pair_at : List ℕ → ℕ → Command
pair_at s at = pair (record { a = byte s (at + 1); b = byte s (at + 2) })

abbrev pub run_at : List ℕ → ℕ → Command
run_at s at = run (byte s (at + 1))

abbrev pub touch_of_bytes : ℕ → ℕ → ℕ → Touch
touch_of_bytes kind high low = record { kind = kind; position = high * 256 + low }

abbrev pub single_at : List ℕ → ℕ → Command
single_at s at = step (single (touch_of_bytes (byte s (at + 1)) (byte s (at + 2)) (byte s (at + 3))))

abbrev pub transfer_at : List ℕ → ℕ → Command
transfer_at s at = step (transfer (touch_of_bytes (byte s (at + 1)) (byte s (at + 2)) (byte s (at + 3))) (touch_of_bytes (byte s (at + 4)) (byte s (at + 5)) (byte s (at + 6))))

abbrev pub cut_at : List ℕ → ℕ → Command
cut_at s at = cut (record { of_run = byte s (at + 1); after = byte s (at + 2); seen_by = byte s (at + 3) })

abbrev pub done_at : List ℕ → ℕ → Command
done_at s at = done (byte s (at + 1))

-- a command that f finds at an offset
unfoldable pub obey : (List ℕ → ℕ → Command) → Rules → List ℕ → ℕ → ReadState → Move
obey f ρ s at t = checks (command_tests ρ s at t (f s at)) at (obeyed (f s at) at t)

-- 45: the end, and nothing behind it
unfoldable pub end_at : Rules → List ℕ → ℕ → ReadState → Move
end_at ρ s at t = check (leb (length s) (at + 1)) BytesAfterEnd (at + 1) (over (accepted t.contents))

-- the command at an offset; where the bytes have ended, the place of the refusal is their length
unfoldable pub command_at : Rules → List ℕ → ℕ → ReadState → Move
command_at ρ s at t =
    check (ltb at (length s)) EndsEarly at
    (pick (eqb (byte s at) 0x43) (obey pair_at ρ s at t)
    (pick (eqb (byte s at) 0x52) (obey run_at ρ s at t)
    (pick (eqb (byte s at) 0x53) (obey single_at ρ s at t)
    (pick (eqb (byte s at) 0x54) (check ρ.has_transfers NoCommand at (obey transfer_at ρ s at t))
    (pick (eqb (byte s at) 0x42) (check ρ.has_cuts NoCommand at (obey cut_at ρ s at t))
    (pick (eqb (byte s at) 0x48) (obey done_at ρ s at t)
    (pick (eqb (byte s at) 0x45) (end_at ρ s at t)
    (over (refused NoCommand at)))))))))

abbrev pub follow : Move → (ℕ → ReadState → Outcome) → Outcome
follow (on at t) f = f at t
follow (over o) f = o

-- at most k commands from an offset on
unfoldable pub read_from : Rules → ℕ → List ℕ → ℕ → ReadState → Outcome
read_from ρ zero s at t = refused EndsEarly at
read_from ρ (suc k) s at t = follow (command_at ρ s at t) (read_from ρ k s)

abbrev pub start : ReadState
start = record { group = 0; contents = nothing }

-- commands in turn from the first byte on; each has a byte at least, so one more than the bytes are enough
unfoldable pub read_commands : Rules → List ℕ → Outcome
read_commands ρ s = read_from ρ (suc (length s)) s 0 start

-- 1 comes first
unfoldable pub read_by : Rules → List ℕ → Outcome
read_by ρ s = pick (leb (length s) ρ.length_limit) (read_commands ρ s) (refused BookTooLong 0)

-- the format of deck books
abbrev pub read : List ℕ → Outcome
read = read_by deck_rules
