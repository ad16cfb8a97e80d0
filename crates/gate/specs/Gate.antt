-- What the gate's record means, and what opening and the calls promise (document 01, "Plain gate"; document 02, change 7).
use Rattle.std.specs.Prelude.{Result, Ok, Err, ℕ, ◌≡◌, []}
use Rattle.book.specs.Format.{Contents, Outcome, run_limit, nothing, refused as book_refused, accepted as book_accepted, with_history}
use Rattle.book.specs.Numbers.{number, Numbers, refused_with, value_of, numbers_of}
use Rattle.book.specs.Book.{refusal_at, flagged, contents_of, Flags, Valid}
use Rattle.book.specs.declared.Cause.{Cause}
use Rattle.book.specs.declared.Cause.TheVariants.{Damaged}
use Rattle.book.specs.declared.Refusal.{Refusal}
use Rattle.valid.specs.TakenBack.{TakenBackAgree}
use Rattle.plain.specs.Plain.{Call, Answer, step, withdraw, take_back, place, withdrawn, taken_back, refused, State, newly_opened, PlainCall}
use Rattle.gate.specs.declared.Call.{Call as GateCall}
use Rattle.gate.specs.declared.Call.TheVariants.{Step, Withdraw, TakeBack}
use Rattle.gate.specs.declared.Reply.{Reply}
use Rattle.gate.specs.declared.Reply.TheVariants.{Place, Withdrawn, TakenBack}
use Rattle.gate.specs.declared.Gate.{Gate}
use Rattle.gate.specs.declared.Opened.{Opened}

-- document 01's call for each case of the enum
abbrev pub as_call : GateCall → Call
as_call (Step r) = step r
as_call (Withdraw r) = withdraw r
as_call (TakeBack r) = take_back r

-- what a call on a gate answers: a refusal's cause, or a reply
abbrev pub Replied : Type 0
Replied = Result Reply Cause

-- what opening a gate answers beside it: a refusal, or that the book is accepted
abbrev pub OpeningAnswer : Type 0
OpeningAnswer = Result (Unit {0}) Refusal

-- document 01's answer for each case; a refusal is its number
abbrev pub answer_of : Replied → Answer
answer_of (Ok (Place p)) = place p
answer_of (Ok Withdrawn) = withdrawn
answer_of (Ok TakenBack) = taken_back
answer_of (Err cause) = refused (number cause)

-- the place of an admitted step; a withdrawal and a take-back have no value
abbrev pub reply_value : Reply → ℕ
reply_value (Place p) = p
reply_value Withdrawn = 0
reply_value TakenBack = 0

-- each case in numbers: 20 to 23, 26 and 32 with the number only
abbrev pub reply_numbers : Replied → Numbers
reply_numbers (Ok a) = value_of (reply_value a)
reply_numbers (Err cause) = refused_with cause 0

-- the record's book, whose own history plays no part
abbrev pub book_of : Gate → Contents
book_of g = with_history (contents_of g.book) []

-- the record's kept list is the history of its book; its withdrawn runs and those taken back are those whose flag is not 0
abbrev pub state_of : Gate → State
state_of g = record { kept = (contents_of g.book).history; withdrawn = flagged 0 g.withdrawn; taken_back = flagged 0 g.taken_back }

-- the tables have their ranges and agree with each other; so it is of every record that opening hands back, and that a call leaves of such a one
pub record Sound (g : Gate) : Type 0 where
  pub valid : Valid g.book
  pub withdrawn_flags : Flags run_limit g.withdrawn
  pub taken_back_flags : Flags run_limit g.taken_back
  pub taken_back_agree : TakenBackAgree g.taken_back g.withdrawn g.book.counts

-- opening is refused with cause and place as reading is, and then hands back the gate of a book without runs
abbrev pub opening_answer : Outcome → OpeningAnswer
opening_answer (book_refused cause at) = Err (refusal_at cause at)
opening_answer (book_accepted c) = Ok tt

-- each case in numbers: an opened gate has no value
abbrev pub opening_numbers : OpeningAnswer → Numbers
opening_numbers = numbers_of (λ x. 0)

abbrev pub opened_book : Outcome → Contents
opened_book (book_refused cause at) = nothing
opened_book (book_accepted c) = with_history c []

-- what opening a gate promises, of the outcome of reading its bytes
pub record OpenedAs (o : Outcome) (x : Opened) : Type 0 where
  pub answer : x.answer ≡ opening_answer o
  pub book : book_of x.gate ≡ opened_book o
  pub state : state_of x.gate ≡ newly_opened
  pub sound : Sound x.gate

-- what a call promises of a sound record g at entry, its answer, and the record h at exit: the plain gate's answer and next state, and the same book
pub record SoundCall (g : Gate) (x : Call) (a : Replied) (h : Gate) : Type 0 where
  pub plain : PlainCall (book_of g) (state_of g) x (answer_of a) (state_of h)
  pub book : book_of h ≡ book_of g
  pub sound : Sound h

-- what a call promises of any record g: one that is not sound is refused by 26, before all else, and no byte of it changes
pub data CalledAs (g : Gate) (x : Call) (a : Replied) (h : Gate) : Type 0 where
  on_sound : Sound g → SoundCall g x a h → CalledAs g x a h
  on_damaged : ¬ Sound g → a ≡ Err Damaged → h ≡ g → CalledAs g x a h
