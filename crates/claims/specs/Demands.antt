-- The demands, sentence by sentence, as statements about every answer that meets the public calls' contracts. What the calls' own proofs say
-- besides, for every input: they never trap, they end, and they touch no memory but the lent buffers and the lent record. Demand 3 is plain's `Demand3`
-- (crates/plain/specs/Demand.antt), and the twelve rows are theory's `TwelveHistories` (crates/theory/specs/Rows.antt); both stand there once.
use Rattle.std.specs.Prelude.{Result, Ok, ℕ, ◌≤◌, ◌<◌, ◌≡◌, ◌≢◌, ◌↔◌, List, [], ◌∷◌, length, take, replicate}
use Rattle.theory.specs.Relative.{ConflictSerializable, RelativelySerialOrder, RelativelySerializable}
use Rattle.theory.specs.Graph.{Cycle}
use Rattle.buffer.specs.Put.{Put}
use Rattle.book.specs.Format.{Bytes, Contents, nothing, accepted, run_limit, step_limit, read}
use Rattle.book.specs.Numbers.{Numbers, value_of, reading_numbers, answer_numbers}
use Rattle.book.specs.TestOrder.{book_numbers}
use Rattle.book.specs.Meaning.{conflict_of, unit_of}
use Rattle.book.specs.Book.{outcome_of, ReadAs}
use Rattle.book.specs.declared.Book.{Book}
use Rattle.book.specs.declared.Refusal.{Refusal}
use Rattle.writer.specs.Written.{Written, written_numbers, Wrote}
use Rattle.judge.specs.Judged.{JudgeAnswer, verdict_numbers, verdict_of, count_of}
use Rattle.judge.specs.Judge.{BytesJudged}
use Rattle.judge.specs.declared.Verdict.TheVariants.{Passed, Tangled}
use Rattle.islands.specs.Islands.{IslandsListed, IslandHistory, IslandJudged}
use Rattle.islands.specs.declared.IslandList.{IslandList}
use Rattle.islands.specs.declared.IslandSteps.{IslandSteps}
use Rattle.classes.specs.Tested.{Tested, tested_numbers, TestedAs}
use Rattle.names.specs.declared.ArcNames.{ArcNames}
use Rattle.evidence.specs.Named.{Named, named_numbers, NamedAs}
use Rattle.plain.specs.Plain.{Call, step, withdraw, take_back, Answer as PlainAnswer, place, withdrawn, taken_back, refused, State, In, newly_opened}
use Rattle.gate.specs.Gate.{Replied, reply_numbers, book_of, state_of, opening_numbers, opened_book, OpenedAs, CalledAs}
use Rattle.gate.specs.Chain.{Chain}
use Rattle.plain.specs.Demand.{Demand3}
use Rattle.replay.specs.Replay.{played_numbers, Unchanged, Replays}
use Rattle.gate.specs.declared.Gate.{Gate}
use Rattle.gate.specs.declared.Opened.{Opened}
use Rattle.replay.specs.declared.Replayed.{Replayed}
use Rattle.report.specs.Text.{Findings, refused_at, accepted_with, text_of}
use Rattle.report.specs.Reporting.{Reports}
use Rattle.capi.specs.Numbers.{answered}
use Rattle.capi.specs.Calls.{ReadCall, TestCall, NameCall, JudgeCall, WriteCall, OpenCall, GateCall, ReplayCall, IslandsCall, IslandHistoryCall, IslandJudgeCall}
use Rattle.capi.specs.declared.Answered.{Answered}
use Rattle.capi.specs.declared.Judged.{Judged}
use Rattle.capi.specs.declared.OpenedGate.{OpenedGate}
use Rattle.capi.specs.declared.ListedIslands.{ListedIslands}
use Rattle.capi.specs.declared.ListedSteps.{ListedSteps}
use Rattle.table.specs.BookTable.{BookRow, NoRow}
use Rattle.claims.specs.Table.{JudgeRow, WriterRow, IslandRow, IslandJudgeRow, GateRow, ReplayRow}

-- Demand 1, of a call that answers the numbers n, where the rows R of the documents' table (table BookTable, Table) are its refusals, and LeftAsIs says that
-- every lent byte and the record are as at entry; of a book, or of a list that a call in Rattle hands back, that there is none, of a gate, that it is the one
-- without runs, of a list for C, that every number is 0, and of a replay's gate, that it is as opened.
pub record TurnsAway (R : ℕ → ℕ → Type 0) (n : Numbers) (LeftAsIs : Type 0) : Type 0 where
  -- Each refusal has the number and place in document 01, with document 02's changes so far,
  pub row : n.number ≢ 0 → R n.number n.place
  pub no_value : n.number ≢ 0 → n.value ≡ 0
  -- and nothing refused changes a buffer or the gate.
  pub unchanged : n.number ≢ 0 → LeftAsIs
  -- Where a row applies, the call is refused with its number, at its place.
  pub refused_by : (m place : ℕ) → R m place → (n.number ≡ m) × (n.place ≡ place)

-- the judge's two buffers are as at entry, and none of their bytes are counted
pub record BuffersUnchanged (order order' cycle cycle' : List ℕ) (count : ℕ) : Type 0 where
  pub order_same : order' ≡ order
  pub cycle_same : cycle' ≡ cycle
  pub no_count : count ≡ 0

-- a refused replay leaves the buffer of answers as it was, and the gate as opening left it
pub record AnswersUnchanged (s answers answers' : List ℕ) (g : Gate) : Type 0 where
  pub replay : Unchanged answers answers' g
  pub book : book_of g ≡ opened_book (read s)

-- a refused opening hands back, beside number and place, the gate of a book without runs
pub record WithoutRuns (g : Gate) : Type 0 where
  pub book : book_of g ≡ nothing
  pub state : state_of g ≡ newly_opened

-- some book is refused with this number
pub record SomeBook (n : ℕ) : Type 0 where
  pub book : List ℕ
  pub bytes : Bytes book
  pub place : ℕ
  pub row : BookRow book n place

-- the answers of the calls for C in numbers
abbrev pub answered_numbers : Answered → Numbers
answered_numbers r = record { number = r.number; place = r.place; value = r.value }

abbrev pub judged_numbers : Judged → Numbers
judged_numbers r = record { number = r.number; place = r.place; value = r.verdict }

abbrev pub opened_numbers : OpenedGate → Numbers
opened_numbers r = record { number = r.number; place = r.place; value = 0 }

abbrev pub island_numbers : ListedIslands → Numbers
island_numbers r = record { number = r.number; place = r.place; value = 0 }

abbrev pub step_numbers : ListedSteps → Numbers
step_numbers r = record { number = r.number; place = r.place; value = 0 }

-- a refused list of islands, or of an island's steps, has beside number and place only 0
abbrev pub WithoutIslands : ListedIslands → Type 0
WithoutIslands r = r ≡ record { number = r.number; place = r.place; runs = 0; count = 0; smallest = replicate run_limit 0; list = replicate run_limit 0 }

abbrev pub WithoutSteps : ListedSteps → Type 0
WithoutSteps r = r ≡ record { number = r.number; place = r.place; count = 0; history = replicate step_limit 0 }

-- Demand 1 of every call: by its contract, its refusals are these rows. LeftAsIs is Unit where a call is lent nothing that it could write to.
pub record Demand1 : Type 1 where
  -- the numbers of a book's refusals: document 01's "1 to 11" and each later check of the reader, and no others
  pub book_refusals : (s : List ℕ) (n place : ℕ) → BookRow s n place → In n book_numbers
  pub each_refusal : (n : ℕ) → In n book_numbers → SomeBook n
  pub read_bytes : (s : List ℕ) (r : Result Book Refusal) → ReadAs (read s) r → TurnsAway (BookRow s) (reading_numbers (outcome_of r)) ((b : Book) → r ≢ Ok b)
  pub deck_read : (s : List ℕ) (r : Answered) → ReadCall s r → TurnsAway (BookRow s) (answered_numbers r) (Unit {0})
  pub judge_bytes : (s order order' cycle cycle' : List ℕ) (r : JudgeAnswer) → BytesJudged order order' cycle cycle' s r
      → TurnsAway (JudgeRow s order cycle) (verdict_numbers (verdict_of r)) (BuffersUnchanged order order' cycle cycle' (count_of r))
  pub deck_judge : (s order order' cycle cycle' : List ℕ) (r : Judged) → JudgeCall s order order' cycle cycle' r
      → TurnsAway (JudgeRow s order cycle) (judged_numbers r) (BuffersUnchanged order order' cycle cycle' r.count)
  -- the four class tests, the order check and the cycle check; P is what they ask of the contents
  pub test_bytes : (P : Contents → Type 0) (s : List ℕ) (r : Tested) → TestedAs P s r → TurnsAway (BookRow s) (tested_numbers r) (Unit {0})
  pub deck_test : (P : Contents → Type 0) (s : List ℕ) (r : Answered) → TestCall P s r → TurnsAway (BookRow s) (answered_numbers r) (Unit {0})
  -- the arc test; N names the arcs of the contents
  pub name_bytes : (N : Contents → ArcNames) (s : List ℕ) (r : Named) → NamedAs N s r → TurnsAway (BookRow s) (named_numbers r) (Unit {0})
  pub deck_name : (N : Contents → ArcNames) (s : List ℕ) (r : Answered) → NameCall N s r → TurnsAway (BookRow s) (answered_numbers r) (Unit {0})
  pub write_bytes : (s out out' : List ℕ) (r : Written) → Wrote s out out' r → TurnsAway (WriterRow s out) (written_numbers r) (out' ≡ out)
  pub deck_write : (s out out' : List ℕ) (r : Answered) → WriteCall s out out' r → TurnsAway (WriterRow s out) (answered_numbers r) (out' ≡ out)
  pub open_gate : (s : List ℕ) (o : Opened) → OpenedAs (read s) o → TurnsAway (BookRow s) (opening_numbers o.answer) (WithoutRuns o.gate)
  pub deck_open : (s : List ℕ) (r : OpenedGate) → OpenCall s r → TurnsAway (BookRow s) (opened_numbers r) (WithoutRuns r.gate)
  -- step, withdraw and take back, on any record
  pub call_gate : (g h : Gate) (x : Call) (a : Replied) → CalledAs g x a h → TurnsAway (GateRow g x) (reply_numbers a) (h ≡ g)
  pub deck_call : (g h : Gate) (x : Call) (r : Answered) → GateCall x g h r → TurnsAway (GateRow g x) (answered_numbers r) (h ≡ g)
  pub replay_calls : (s calls answers answers' : List ℕ) (r : Replayed) → Replays s calls answers answers' r
      → TurnsAway (ReplayRow s calls answers) (played_numbers r.played) (AnswersUnchanged s answers answers' r.gate)
  pub deck_replay : (s calls answers answers' : List ℕ) (r : Answered) → ReplayCall s calls answers answers' r
      → TurnsAway (ReplayRow s calls answers) (answered_numbers r) (answers' ≡ answers)
  -- the program's text, in a buffer that is always long enough: of a refused book its number and place alone
  pub report_refused : (s text text' : List ℕ) (n : ℕ) → Reports (read s) text text' n → (m place : ℕ) → BookRow s m place → Put (text_of (refused_at m place)) text text' n
  pub report_accepted : (s text text' : List ℕ) (n : ℕ) → Reports (read s) text text' n → NoRow s → (w : Findings) × Put (text_of (accepted_with w)) text text' n

-- the same of the calls on islands: the islands, an island's history, and an island judged
pub record Demand1OfIslands : Type 0 where
  pub list_islands : (s : List ℕ) (r : Result IslandList Refusal) → IslandsListed s r → TurnsAway (BookRow s) (answer_numbers r) ((x : IslandList) → r ≢ Ok x)
  pub deck_islands : (s : List ℕ) (r : ListedIslands) → IslandsCall s r → TurnsAway (BookRow s) (island_numbers r) (WithoutIslands r)
  pub island_history : (s : List ℕ) (m : ℕ) (r : Result IslandSteps Refusal) → IslandHistory s m r → TurnsAway (IslandRow s m) (answer_numbers r) ((x : IslandSteps) → r ≢ Ok x)
  pub deck_island_history : (s : List ℕ) (m : ℕ) (r : ListedSteps) → IslandHistoryCall s m r → TurnsAway (IslandRow s m) (step_numbers r) (WithoutSteps r)
  pub judge_island : (s : List ℕ) (m : ℕ) (order order' cycle cycle' : List ℕ) (r : JudgeAnswer) → IslandJudged order order' cycle cycle' s m r
      → TurnsAway (IslandJudgeRow s m order cycle) (verdict_numbers (verdict_of r)) (BuffersUnchanged order order' cycle cycle' (count_of r))
  pub deck_judge_island : (s : List ℕ) (m : ℕ) (order order' cycle cycle' : List ℕ) (r : Judged) → IslandJudgeCall s m order order' cycle cycle' r
      → TurnsAway (IslandJudgeRow s m order cycle) (judged_numbers r) (BuffersUnchanged order order' cycle cycle' r.count)

-- Demand 2, of a verdict and its count on the bytes of a book with contents c, and of the buffers after the call. `passed` and `tangled` are the two
-- verdicts, as an enum's cases or in numbers.
pub record Demand2By {A : Type 0} (passed tangled : A) (c : Contents) (order' cycle' : List ℕ) (verdict : A) (count : ℕ) : Type 0 where
  -- The judge passes a history exactly when some relatively serial order of its steps, in the published sense, has every conflicting pair in
  -- the same order.
  pub passes_exactly : (verdict ≡ passed) ↔ RelativelySerializable (conflict_of c) (unit_of c) c.history
  -- It then returns such an order,
  pub order_returned : verdict ≡ passed → RelativelySerialOrder (conflict_of c) (unit_of c) c.history (take count order')
  pub order_counted : verdict ≡ passed → count ≡ length c.history
  -- and otherwise a cycle of the published graph.
  pub tangled_otherwise : verdict ≢ passed → verdict ≡ tangled
  pub cycle_returned : verdict ≢ passed → Cycle (conflict_of c) (unit_of c) c.history (take count cycle')
  pub cycle_counted : verdict ≢ passed → count ≡ length (take count cycle')
  -- Without cuts, it passes exactly the conflict serializable histories.
  pub uncut_exactly : c.cuts ≡ [] → (verdict ≡ passed) ↔ ConflictSerializable (conflict_of c) c.history

-- of an answer of the judge
abbrev pub Demand2 : Contents → List ℕ → List ℕ → JudgeAnswer → Type 0
Demand2 c order' cycle' r = Demand2By (Ok Passed) (Ok Tangled) c order' cycle' (verdict_of r) (count_of r)

-- of the numbers that the judge for C answers: the verdict is 1 for passed, 2 for tangled
abbrev pub DeckDemand2 : Contents → List ℕ → List ℕ → Judged → Type 0
DeckDemand2 c order' cycle' r = Demand2By (value_of 1) (value_of 2) c order' cycle' (judged_numbers r) r.count

-- Demand 2 for every accepted book, buffers as long as the judge asks, and every judgement that meets the judge's contract.
abbrev pub EveryJudgement : Type 0
EveryJudgement = (s : List ℕ) (c : Contents) → read s ≡ accepted c → (order order' cycle cycle' : List ℕ) (r : JudgeAnswer) → step_limit ≤ length order → step_limit ≤ length cycle
    → BytesJudged order order' cycle cycle' s r → Demand2 c order' cycle' r

-- the same of the judge for C
abbrev pub EveryDeckJudgement : Type 0
EveryDeckJudgement = (s : List ℕ) (c : Contents) → read s ≡ accepted c → (order order' cycle cycle' : List ℕ) (r : Judged) → step_limit ≤ length order → step_limit ≤ length cycle
    → JudgeCall s order order' cycle cycle' r → DeckDemand2 c order' cycle' r

-- Demand 3 for every accepted book, every gate that opening it returned, and every list of calls made in turn on that record.
abbrev pub EveryListOfCalls : Type 0
EveryListOfCalls = (s : List ℕ) (c : Contents) → Bytes s → read s ≡ accepted c → (o : Opened) → OpenedAs (read s) o
    → (calls : List Call) (answers : List PlainAnswer) (g : Gate) → Chain o.gate calls answers g → Demand3 s c calls answers (state_of g)

-- ---- demand 3 of the calls for C

-- calls for C made in turn on the one record, with the numbers that each answers: the first gets the record as it is in g, each other as the call before
-- left it
pub data DeckChain : Gate → List Call → List Answered → Gate → Type 0 where
  none : {g : Gate} → DeckChain g [] [] g
  link : {g h k : Gate} {x : Call} {n : Answered} {xs : List Call} {ns : List Answered} → GateCall x g h n → DeckChain h xs ns k → DeckChain g (x ∷ xs) (n ∷ ns) k

-- the numbers of an answer to a call: the place of an admitted step is their value, "withdrawn" and "taken back" have none, and a refusal has its number
pub data NumbersOf : Call → PlainAnswer → Answered → Type 0 where
  of_place : {r p : ℕ} → NumbersOf (step r) (place p) (answered (value_of p))
  of_withdrawn : {r : ℕ} → NumbersOf (withdraw r) withdrawn (answered (value_of 0))
  of_taken_back : {r : ℕ} → NumbersOf (take_back r) taken_back (answered (value_of 0))
  of_refusal : {x : Call} {m : ℕ} → 0 < m → NumbersOf x (refused m) (record { number = m; place = 0; value = 0 })

-- of each answer in order
pub data NumbersOfAll : List Call → List PlainAnswer → List Answered → Type 0 where
  no_more : NumbersOfAll [] [] []
  then : {x : Call} {a : PlainAnswer} {n : Answered} {xs : List Call} {bs : List PlainAnswer} {ns : List Answered} → NumbersOf x a n → NumbersOfAll xs bs ns
      → NumbersOfAll (x ∷ xs) (a ∷ bs) (n ∷ ns)

-- Demand 3 holds of the answers whose numbers the calls gave; there is one such list of answers.
pub record DeckDemand3 (s : List ℕ) (c : Contents) (calls : List Call) (numbers : List Answered) (g : State) : Type 0 where
  pub answers : List PlainAnswer
  pub numbers_of : NumbersOfAll calls answers numbers
  pub no_other : (bs : List PlainAnswer) → NumbersOfAll calls bs numbers → bs ≡ answers
  pub demand : Demand3 s c calls answers g

-- for every accepted book, every gate that opening it for C returned, and every list of calls for C made in turn on that record
abbrev pub EveryListOfDeckCalls : Type 0
EveryListOfDeckCalls = (s : List ℕ) (c : Contents) → Bytes s → read s ≡ accepted c → (o : OpenedGate) → OpenCall s o
    → (calls : List Call) (numbers : List Answered) (g : Gate) → DeckChain o.gate calls numbers g → DeckDemand3 s c calls numbers (state_of g)
