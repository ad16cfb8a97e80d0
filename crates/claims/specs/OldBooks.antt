-- Old books give what they gave: those without 65535 (document 02, change 4), and those without a 54 (change 6). Of the calls whose contracts speak of
-- conflict: where the book's conflict is an earlier one, an answer meets the contract exactly if it meets the one by that conflict, and what a list of calls
-- on a gate and a pass over a history give is right by it. Where no step is a transfer, it is the conflict from before transfers; where moreover none homes,
-- that from before homing. Of reading: a book without a 54 is read as before. The other calls (reader, writer, opening, the tests of serial and relatively
-- atomic, the judge's second call) and all refusals but 23 do not speak of conflict.
use Rattle.std.specs.Prelude.{Ok, ℕ, ◌*◌, ◌≤◌, ◌≡◌, ◌↔◌, Bool, List, [], ◌++◌, length, drop}
use Rattle.theory.specs.Deck.{Pair, Step}
use Rattle.theory.specs.Transfers.{before_transfers, WithoutTransfers}
use Rattle.theory.specs.Homing.{before_homing, WithoutHoming}
use Rattle.theory.specs.Relative.{Depends}
use Rattle.buffer.specs.Put.{Put}
use Rattle.book.specs.Format.{Contents, Outcome, accepted, step_limit, deck_rules, read_by, read}
use Rattle.book.specs.EarlierReader.{earlier as earlier_rules, Has54, RefusedBefore}
use Rattle.book.specs.Meaning.{conflict_of, unit_of}
use Rattle.book.specs.Book.{pairs_of}
use Rattle.dependence.specs.Marks.{Marks}
use Rattle.dependence.specs.Dependence.{Blank}
use Rattle.judge.specs.Judged.{JudgeAnswer, verdict_numbers, verdict_of, count_of, JudgementAs}
use Rattle.judge.specs.Judge.{BytesJudged}
use Rattle.classes.specs.Tested.{Tested, TestedAs}
use Rattle.names.specs.declared.ArcNames.{ArcNames}
use Rattle.evidence.specs.Named.{Named, NamedAs}
use Rattle.plain.specs.Plain.{Call, Answer, State, newly_opened, PlainCall, PlainCallBy, PlainCalls, PlainCallsBy}
use Rattle.gate.specs.Gate.{Replied, answer_of, reply_numbers, book_of, state_of, Sound, OpenedAs, CalledAs}
use Rattle.gate.specs.Chain.{Chain}
use Rattle.replay.specs.Replay.{calls_of, answers_bytes, played_by, Replays}
use Rattle.gate.specs.declared.Gate.{Gate}
use Rattle.gate.specs.declared.Opened.{Opened}
use Rattle.replay.specs.declared.Replayed.{Replayed}
use Rattle.report.specs.Text.{Findings, accepted_with, text_of}
use Rattle.report.specs.Reporting.{FindingsBy, Reports}
use Rattle.capi.specs.Numbers.{answered, judged}
use Rattle.capi.specs.Calls.{TestCall, NameCall, JudgeCall, GateCall, ReplayCall}
use Rattle.capi.specs.declared.Answered.{Answered}
use Rattle.capi.specs.declared.Judged.{Judged}
use Rattle.claims.specs.OnePass.{Fed}

-- an earlier meaning of conflict, of the listed pairs and the runs of a book
module _ (earlier : List Pair → List (List Step) → ℕ → ℕ → ℕ → ℕ → Bool) where
  abbrev pub earlier_of : Contents → ℕ → ℕ → ℕ → ℕ → Bool
  earlier_of c = earlier c.pairs c.runs

  -- ---- the calls on a book's bytes

  -- the judge for C: the numbers of an answer that is right by the earlier conflict
  pub record DeckJudgedBefore (c : Contents) (order order' cycle cycle' : List ℕ) (r : Judged) : Type 0 where
    pub judgement : JudgeAnswer
    pub promise : JudgementAs (earlier_of c) (unit_of c) c.history order order' cycle cycle' judgement
    pub numbers : r ≡ judged (verdict_numbers (verdict_of judgement)) (count_of judgement)

  -- the buffer has the text of findings that are right by the earlier conflict
  pub record ReportedBefore (c : Contents) (text text' : List ℕ) (n : ℕ) : Type 0 where
    pub findings : Findings
    pub right : FindingsBy (earlier_of c) c findings
    pub put : Put (text_of (accepted_with findings)) text text' n

  -- the plain gate, by the earlier conflict, gives answers to the calls and is then in the state h; the buffer begins with these, and its other bytes are
  -- as they were
  pub record ReplayedBefore (c : Contents) (calls answers answers' : List ℕ) (h : State) : Type 0 where
    pub given : List Answer
    pub reached : PlainCallsBy (earlier_of c) c newly_opened (calls_of calls) given h
    pub buffer : answers' ≡ answers_bytes given ++ drop (2 * length (calls_of calls)) answers

  -- of the bytes s of a book with contents c
  pub record BookAsBefore (s : List ℕ) (c : Contents) : Type 1 where
    -- the judge, with buffers as long as it asks
    pub judging : (order order' cycle cycle' : List ℕ) (r : JudgeAnswer) → step_limit ≤ length order → step_limit ≤ length cycle
        → BytesJudged order order' cycle cycle' s r ↔ JudgementAs (earlier_of c) (unit_of c) c.history order order' cycle cycle' r
    pub deck_judging : (order order' cycle cycle' : List ℕ) (r : Judged) → step_limit ≤ length order → step_limit ≤ length cycle
        → JudgeCall s order order' cycle cycle' r ↔ DeckJudgedBefore c order order' cycle cycle' r
    -- the tests: P is what one asks of a book b by a conflict k. Relatively serial: RelativelySerial k (unit_of b) b.history; conflict serializable:
    -- ConflictSerializable k b.history; order check and cycle check: RelativelySerialOrder and Cycle of k (unit_of b) b.history
    pub testing : (P : (ℕ → ℕ → ℕ → ℕ → Bool) → Contents → Type 0) (r : Tested) → TestedAs (λ b. P (conflict_of b) b) s r ↔ TestedAs (λ b. P (earlier_of b) b) s r
    pub deck_testing : (P : (ℕ → ℕ → ℕ → ℕ → Bool) → Contents → Type 0) (r : Answered) → TestCall (λ b. P (conflict_of b) b) s r ↔ TestCall (λ b. P (earlier_of b) b) s r
    -- the arc test: N names the arcs of a book b by a conflict k, names_of k (unit_of b) b.history from one place to another
    pub naming : (N : (ℕ → ℕ → ℕ → ℕ → Bool) → Contents → ArcNames) (r : Named) → NamedAs (λ b. N (conflict_of b) b) s r ↔ NamedAs (λ b. N (earlier_of b) b) s r
    pub deck_naming : (N : (ℕ → ℕ → ℕ → ℕ → Bool) → Contents → ArcNames) (r : Answered) → NameCall (λ b. N (conflict_of b) b) s r ↔ NameCall (λ b. N (earlier_of b) b) s r
    -- the program's text
    pub reporting : (text text' : List ℕ) (n : ℕ) → Reports (read s) text text' n ↔ ReportedBefore c text text' n
    -- the plain gate
    pub plain_call : (g h : State) (x : Call) (a : Answer) → PlainCall c g x a h ↔ PlainCallBy (earlier_of c) c g x a h
    pub plain_calls : (g h : State) (calls : List Call) (answers : List Answer) → PlainCalls c g calls answers h ↔ PlainCallsBy (earlier_of c) c g calls answers h
    -- calls made in turn on a gate newly opened over the book
    pub calling_in_turn : (o : Opened) → OpenedAs (read s) o → (calls : List Call) (answers : List Answer) (g : Gate) → Chain o.gate calls answers g
        → PlainCallsBy (earlier_of c) c newly_opened calls answers (state_of g)
    -- a replay of calls that are all made
    pub replaying : (calls answers answers' : List ℕ) (r : Replayed) (n : ℕ) → Replays s calls answers answers' r → played_by (read s) calls (length answers) ≡ Ok n
        → ReplayedBefore c calls answers answers' (state_of r.gate)
    pub deck_replaying : (calls answers answers' : List ℕ) (r : Answered) (n : ℕ) → ReplayCall s calls answers answers' r → played_by (read s) calls (length answers) ≡ Ok n
        → (h : State) × ReplayedBefore c calls answers answers' h

  -- ---- the calls on a gate's record

  -- the answer and the next state are the plain gate's by the earlier conflict; the book is the same, and the record at exit is sound too
  pub record CalledBefore (g : Gate) (x : Call) (a : Replied) (h : Gate) : Type 0 where
    pub plain : PlainCallBy (earlier_of (book_of g)) (book_of g) (state_of g) x (answer_of a) (state_of h)
    pub book : book_of h ≡ book_of g
    pub sound : Sound h

  -- the call for C: the numbers of such an answer
  pub record DeckCalledBefore (x : Call) (g h : Gate) (r : Answered) : Type 0 where
    pub reply : Replied
    pub promise : CalledBefore g x reply h
    pub numbers : r ≡ answered (reply_numbers reply)

  -- of a sound record g, whether or not calls left it so
  pub record RecordAsBefore (g : Gate) : Type 0 where
    pub calling : (h : Gate) (x : Call) (a : Replied) → CalledAs g x a h ↔ CalledBefore g x a h
    pub deck_calling : (h : Gate) (x : Call) (r : Answered) → GateCall x g h r ↔ DeckCalledBefore x g h r

  -- ---- a pass over a history: the rows after the steps of l

  abbrev pub PassAsBefore : List ℕ → List (List Step) → Type 0
  PassAsBefore pairs runs = (catalogue seconds dep l c s d : List ℕ) → Blank catalogue → Blank seconds → Blank dep
      → Fed pairs runs [] catalogue seconds dep l c s d → Marks (Depends (earlier (pairs_of pairs) runs) l) d

  -- ---- books whose runs are as Old says give what they gave
  pub record AsBefore (Old : List (List Step) → Type 0) : Type 1 where
    -- their conflict is the earlier one,
    pub conflicts : (c : Contents) → Old c.runs → conflict_of c ≡ earlier_of c
    -- and so is whatever is said by it, as in the contracts of the calls on a valid book: `dependence::dependences`, `graph::tables`, `judge::judge_book`,
    -- `judge::passes`, `classes::is_relatively_serial`, `classes::is_conflict_serializable`
    pub by_conflict : (c : Contents) → Old c.runs → (P : (ℕ → ℕ → ℕ → ℕ → Bool) → Type 0) → P (conflict_of c) ↔ P (earlier_of c)
    -- What the calls on bytes, those on a gate's record, and a pass over a history give
    pub books : (s : List ℕ) (c : Contents) → read s ≡ accepted c → Old c.runs → BookAsBefore s c
    pub records : (g : Gate) → Sound g → Old (book_of g).runs → RecordAsBefore g
    pub passes : (pairs : List ℕ) (runs : List (List Step)) → Old runs → PassAsBefore pairs runs

-- no step homes, and none is a transfer: 54 was no command before homing
abbrev pub BeforeHoming : List (List Step) → Type 0
BeforeHoming runs = WithoutHoming runs × WithoutTransfers runs

-- the reader from before transfers
abbrev pub read_before : List ℕ → Outcome
read_before = read_by (earlier_rules deck_rules)

pub record OldBooks : Type 1 where
  -- Change 4: old books without 65535 give what they gave.
  pub without_homing : AsBefore before_homing BeforeHoming
  -- Change 6: a book without a 54 is read as before, accepted with the same contents or refused with the same cause and place,
  pub reading : (s : List ℕ) → ((at : ℕ) → ¬ Has54 deck_rules s at) → read s ≡ read_before s
  -- so whatever is said of the outcome of reading, as in the refusals of every call, is as before.
  pub by_reading : (s : List ℕ) → ((at : ℕ) → ¬ Has54 deck_rules s at) → (P : Outcome → Type 0) → P (read s) ↔ P (read_before s)
  -- The books that were accepted are those that are and have no transfer,
  pub accepted_before : (s : List ℕ) (c : Contents) → (read_before s ≡ accepted c) ↔ ((read s ≡ accepted c) × WithoutTransfers c.runs)
  -- and these give what they gave.
  pub without_transfers : AsBefore before_transfers WithoutTransfers
  -- The other accepted ones were refused by 2, at their first 54.
  pub newly_accepted : (s : List ℕ) (c : Contents) → read s ≡ accepted c → ¬ WithoutTransfers c.runs → RefusedBefore deck_rules s
