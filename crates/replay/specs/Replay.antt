-- A whole list of calls in bytes on a gate newly opened over a book, and its answers in bytes. The byte forms are this call's own.
use Rattle.std.specs.Prelude.{Result, Ok, Err, ℕ, ◌+◌, ◌*◌, ◌≡◌, ◌≢◌, Bool, ◌||◌, List, [], ◌∷◌, ◌++◌, length, take, drop, eqb, leb}
use Rattle.book.specs.Format.{Contents, Outcome, pick, read, refused as book_refused, accepted as book_accepted}
use Rattle.book.specs.Numbers.{Numbers, numbers_of}
use Rattle.book.specs.Book.{refusal_at}
use Rattle.book.specs.declared.Refusal.{Refusal}
use Rattle.book.specs.declared.Cause.TheVariants.{NoCall, AnswersShort}
use Rattle.plain.specs.Plain.{Call, step, withdraw, take_back, Answer, place, withdrawn, taken_back, refused, State, newly_opened, PlainCalls}
use Rattle.plain.specs.Demand.{Demand3}
use Rattle.gate.specs.Gate.{book_of, state_of, opened_book, Sound}
use Rattle.gate.specs.declared.Gate.{Gate}
use Rattle.replay.specs.declared.Replayed.{Replayed}

-- two bytes a call (hexadecimal): 53 r steps run r, 57 r withdraws it, 54 r takes it back
abbrev pub is_call : ℕ → Bool
is_call o = eqb o 0x53 || eqb o 0x57 || eqb o 0x54

abbrev pub call_of : ℕ → ℕ → Call
call_of o r = pick (eqb o 0x53) (step r) (pick (eqb o 0x57) (withdraw r) (take_back r))

abbrev pub calls_of : List ℕ → List Call
calls_of [] = []
calls_of (o ∷ []) = []
calls_of (o ∷ r ∷ bs) = call_of o r ∷ calls_of bs

-- the offset of the first call that is none of 53, 57 and 54, or is cut off; the length where there is none. The list stands at the offset `at`
abbrev pub bad_at : ℕ → List ℕ → ℕ
bad_at at [] = at
bad_at at (o ∷ []) = at
bad_at at (o ∷ r ∷ bs) = pick (is_call o) (bad_at (at + 2) bs) at

-- two bytes an answer: 0 and the place, 1 and 0 for "withdrawn", 2 and a refusal's number, 3 and 0 for "taken back"
abbrev pub answer_bytes : Answer → List ℕ
answer_bytes (place p) = 0 ∷ p ∷ []
answer_bytes withdrawn = 1 ∷ 0 ∷ []
answer_bytes (refused n) = 2 ∷ n ∷ []
answer_bytes taken_back = 3 ∷ 0 ∷ []

abbrev pub answers_bytes : List Answer → List ℕ
answers_bytes [] = []
answers_bytes (a ∷ bs) = answer_bytes a ++ answers_bytes bs

-- the answers that bytes stand for; of two bytes that are no answer's, any. `answers_bytes` says which bytes an answer has
abbrev pub answer_in : ℕ → ℕ → Answer
answer_in k x = pick (eqb k 0) (place x) (pick (eqb k 1) withdrawn (pick (eqb k 2) (refused x) taken_back))

abbrev pub answers_in : List ℕ → List Answer
answers_in [] = []
answers_in (k ∷ []) = []
answers_in (k ∷ x ∷ bs) = answer_in k x ∷ answers_in bs

-- a refusal, or the number of calls made
abbrev pub Played : Type 0
Played = Result ℕ Refusal

-- each case in numbers: the number of calls made
abbrev pub played_numbers : Played → Numbers
played_numbers = numbers_of (λ n. n)

-- the answer for the calls bs and a buffer of n bytes, of the outcome of reading the book: the book's refusals come first,
-- then 24 at its offset of the list, then 25
abbrev pub played_by : Outcome → List ℕ → ℕ → Played
played_by (book_refused cause at) bs n = Err (refusal_at cause at)
played_by (book_accepted c) bs n =
    pick (eqb (bad_at 0 bs) (length bs))
    (pick (leb (2 * length (calls_of bs)) n) (Ok (length (calls_of bs))) (Err (refusal_at AnswersShort 0)))
    (Err (refusal_at NoCall (bad_at 0 bs)))

-- nothing is changed: the buffer's bytes are as before, and the gate is newly opened
pub record Unchanged (before after : List ℕ) (g : Gate) : Type 0 where
  pub buffer : after ≡ before
  pub state : state_of g ≡ newly_opened

-- all calls are made: the buffer begins with the plain gate's answers, its other bytes are as before, and demand 3 holds of the answers in the
-- buffer and of the record g
pub record CallsMade (s : List ℕ) (c : Contents) (bs before after : List ℕ) (g : Gate) : Type 0 where
  pub buffer : (answers : List Answer) (h : State) → PlainCalls c newly_opened (calls_of bs) answers h
      → after ≡ answers_bytes answers ++ drop (2 * length (calls_of bs)) before
  pub demand : Demand3 s c (calls_of bs) (answers_in (take (2 * length (calls_of bs)) after)) (state_of g)

-- what a replay of the calls bs over the book s promises
pub record Replays (s bs before after : List ℕ) (r : Replayed) : Type 0 where
  pub played : r.played ≡ played_by (read s) bs (length before)
  pub book : book_of r.gate ≡ opened_book (read s)
  pub sound : Sound r.gate
  pub refused_unchanged : ((n : ℕ) → r.played ≢ Ok n) → Unchanged before after r.gate
  pub calls_made : (c : Contents) (n : ℕ) → read s ≡ book_accepted c → r.played ≡ Ok n → CallsMade s c bs before after r.gate
