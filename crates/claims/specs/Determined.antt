-- A public call promises all of its result (document 01, "How much does a public call promise?"): any two results that meet its contract on the
-- same input are equal, answer, lent bytes and record. Only the judge's choice of a cycle is open, in its buffer and in a report. The judge's second call,
-- `front`, is not here: its contract is two equations, of the part's bytes and of where it begins. `dependence::read_step` is here from blank tables on, by the
-- bits of its tables; what it makes of tables that no pass over a history has made is left out.
use Rattle.std.specs.Prelude.{Ok, ℕ, ◌<◌, ◌≡◌, ◌≢◌, List, [], drop}
use Rattle.bits.specs.Table.{row_bits, rows, bit_at}
use Rattle.theory.specs.Deck.{Step}
use Rattle.book.specs.Format.{Contents, Outcome, accepted}
use Rattle.book.specs.Meaning.{RelativelySerializableHistory}
use Rattle.book.specs.Book.{ReadAs}
use Rattle.dependence.specs.Marks.{Marks}
use Rattle.dependence.specs.Dependence.{Blank}
use Rattle.judge.specs.Judged.{JudgeAnswer, verdict_numbers, verdict_of, count_of}
use Rattle.judge.specs.Judge.{BytesJudged}
use Rattle.judge.specs.declared.Verdict.TheVariants.{Tangled}
use Rattle.islands.specs.Islands.{IslandsListed, IslandHistory, IslandJudged}
use Rattle.classes.specs.Tested.{TestedAs}
use Rattle.names.specs.declared.ArcNames.{ArcNames}
use Rattle.evidence.specs.Named.{NamedAs}
use Rattle.writer.specs.Written.{Wrote}
use Rattle.plain.specs.Plain.{Call}
use Rattle.gate.specs.Gate.{OpenedAs, CalledAs}
use Rattle.replay.specs.Replay.{Replays}
use Rattle.gate.specs.declared.Gate.{Gate}
use Rattle.report.specs.Text.{Report, refused_at, accepted_with, Verdict as ReportVerdict, passed, tangled}
use Rattle.report.specs.Reporting.{Reports}
use Rattle.capi.specs.Calls.{ReadCall, TestCall, NameCall, JudgeCall, WriteCall, OpenCall, GateCall, ReplayCall, IslandsCall, IslandHistoryCall, IslandJudgeCall}
use Rattle.capi.specs.declared.Judged.{Judged}
use Rattle.claims.specs.Demands.{judged_numbers}
use Rattle.claims.specs.OnePass.{Fed}

-- ---- the shapes of the statements

-- two results that meet the contract are equal
abbrev pub AtMostOne : {R : Type 0} → (R → Type 0) → Type 0
AtMostOne {R} Meets = (r r' : R) → Meets r → Meets r' → r ≡ r'

-- the same, of a contract on two things: an answer, and the lent bytes or the record after the call
abbrev pub AtMostOnePair : {A B : Type 0} → (A → B → Type 0) → Type 0
AtMostOnePair {A} {B} Meets = (a a' : A) (b b' : B) → Meets a b → Meets a' b' → (a ≡ a') × (b ≡ b')

-- two results of the judge, each with its verdict, count, and order and cycle buffers after the call: equal, but for the cycle of a tangled history, whose
-- verdict is `free`: the first bytes of the cycle buffer, as many as the count
pub record EqualButCycle {A : Type 0} (free v v' : A) (count count' : ℕ) (order' order'' cycle' cycle'' : List ℕ) : Type 0 where
  pub verdicts : v ≡ v'
  pub orders : order' ≡ order''
  pub counts : v ≢ free → count ≡ count'
  pub cycles : v ≢ free → cycle' ≡ cycle''

-- a report without its cycle: without the places and the letters of its arcs
abbrev pub verdict_alone : ReportVerdict → ReportVerdict
verdict_alone (passed order) = passed order
verdict_alone (tangled cycle names) = tangled [] []

abbrev pub without_cycle : Report → Report
without_cycle (refused_at number place) = refused_at number place
without_cycle (accepted_with w) = accepted_with (record { done = w.done; serial = w.serial; atomic = w.atomic; relserial = w.relserial; conflict = w.conflict; verdict = verdict_alone w.verdict })

-- the cycle of a report; where it has none, the empty list
abbrev pub cycle_in : ReportVerdict → List ℕ
cycle_in (passed order) = []
cycle_in (tangled cycle names) = cycle

abbrev pub cycle_of : Report → List ℕ
cycle_of (refused_at number place) = []
cycle_of (accepted_with w) = cycle_in w.verdict

-- two tables have the same bit at every row and column
pub record SameBits (t t' : List ℕ) : Type 0 where
  pub same : (x y : ℕ) → x < row_bits → y < rows → bit_at t y x ≡ bit_at t' y x

-- the catalogues c and s and the rows d are those of a pass over the steps of l, from blank tables on
pub record FromBlank (pairs : List ℕ) (runs : List (List Step)) (l c s d : List ℕ) : Type 0 where
  pub catalogue : List ℕ
  pub seconds : List ℕ
  pub dep : List ℕ
  pub blank_catalogue : Blank catalogue
  pub blank_seconds : Blank seconds
  pub blank_dep : Blank dep
  pub fed : Fed pairs runs [] catalogue seconds dep l c s d

-- ---- the calls

-- s is the bytes of a book, o the outcome of reading one, P what a test asks of a book's contents
pub record Determined : Type 1 where
  -- the answer and the book
  pub reading : (o : Outcome) → AtMostOne (ReadAs o)
  -- order and cycle are the buffers before both calls, order' and cycle' after the one, order'' and cycle'' after the other
  pub judging : (s order order' order'' cycle cycle' cycle'' : List ℕ) (r r' : JudgeAnswer)
      → BytesJudged order order' cycle cycle' s r → BytesJudged order order'' cycle cycle'' s r'
      → EqualButCycle (Ok Tangled) (verdict_of r) (verdict_of r') (count_of r) (count_of r') order' order'' cycle' cycle''
  -- what lies behind the cycle is as before
  pub judging_rest : (s order order' cycle cycle' : List ℕ) (r : JudgeAnswer) → BytesJudged order order' cycle cycle' s r → drop (count_of r) cycle' ≡ drop (count_of r) cycle
  -- the four class tests, the order check and the cycle check
  pub testing : (P : Contents → Type 0) (s : List ℕ) → AtMostOne (TestedAs P s)
  -- the arc test; N names the arcs of the contents
  pub naming : (N : Contents → ArcNames) (s : List ℕ) → AtMostOne (NamedAs N s)
  -- the buffer and the answer
  pub writing : (s before : List ℕ) → AtMostOnePair (Wrote s before)
  -- the answer and the record
  pub opening : (o : Outcome) → AtMostOne (OpenedAs o)
  -- step, withdraw and take back, on any record: the answer and the record at exit
  pub calling : (g : Gate) (x : Call) → AtMostOnePair (CalledAs g x)
  -- the buffer, the answer and the record
  pub replaying : (s calls before : List ℕ) → AtMostOnePair (Replays s calls before)
  -- the report whose text is put, but for a cycle, its places and its letters
  pub reporting : (o : Outcome) (before x x' : List ℕ) (n n' : ℕ) (w : Reports o before x n) (w' : Reports o before x' n') → without_cycle w.report ≡ without_cycle w'.report
  -- what lies behind the text is as before
  pub reporting_rest : (o : Outcome) (before x : List ℕ) (n : ℕ) → Reports o before x n → drop n x ≡ drop n before
  -- the buffer and the text's length, where no cycle is printed: the book is refused, or its history relatively serializable
  pub reporting_uncyclic : (o : Outcome) (before : List ℕ) → ((c : Contents) → o ≡ accepted c → RelativelySerializableHistory c) → AtMostOnePair (Reports o before)
  -- the buffer and the text's length, for one cycle: the letters are a function of the history and the cycle above them
  pub reporting_cyclic : (o : Outcome) (before x x' : List ℕ) (n n' : ℕ) (w : Reports o before x n) (w' : Reports o before x' n') → cycle_of w.report ≡ cycle_of w'.report → (x ≡ x') × (n ≡ n')
  -- a table of bits, as of dependence and of arcs: R is what it marks
  pub marking : (R : ℕ → ℕ → Type 0) (t t' : List ℕ) → Marks R t → Marks R t' → SameBits t t'
  -- both catalogues and the dependence rows, after the same steps
  pub feeding : (pairs : List ℕ) (runs : List (List Step)) (l c c' s s' d d' : List ℕ) → FromBlank pairs runs l c s d → FromBlank pairs runs l c' s' d'
      → SameBits c c' × SameBits s s' × SameBits d d'
  -- the same of the calls for C
  pub c_reading : (s : List ℕ) → AtMostOne (ReadCall s)
  pub c_judging : (s order order' order'' cycle cycle' cycle'' : List ℕ) (r r' : Judged)
      → JudgeCall s order order' cycle cycle' r → JudgeCall s order order'' cycle cycle'' r'
      → EqualButCycle (verdict_numbers (Ok Tangled)) (judged_numbers r) (judged_numbers r') r.count r'.count order' order'' cycle' cycle''
  pub c_judging_rest : (s order order' cycle cycle' : List ℕ) (r : Judged) → JudgeCall s order order' cycle cycle' r → drop r.count cycle' ≡ drop r.count cycle
  pub c_testing : (P : Contents → Type 0) (s : List ℕ) → AtMostOne (TestCall P s)
  pub c_naming : (N : Contents → ArcNames) (s : List ℕ) → AtMostOne (NameCall N s)
  pub c_writing : (s before : List ℕ) → AtMostOnePair (WriteCall s before)
  pub c_opening : (s : List ℕ) → AtMostOne (OpenCall s)
  pub c_calling : (x : Call) (g : Gate) → AtMostOnePair (GateCall x g)
  pub c_replaying : (s calls before : List ℕ) → AtMostOnePair (ReplayCall s calls before)

-- the same of the calls on islands
pub record IslandsDetermined : Type 0 where
  -- the islands; the history of the island whose smallest run is m; that island judged, as the judge of the book
  pub listing : (s : List ℕ) → AtMostOne (IslandsListed s)
  pub dividing : (s : List ℕ) (m : ℕ) → AtMostOne (IslandHistory s m)
  pub judging_island : (s : List ℕ) (m : ℕ) (order order' order'' cycle cycle' cycle'' : List ℕ) (r r' : JudgeAnswer)
      → IslandJudged order order' cycle cycle' s m r → IslandJudged order order'' cycle cycle'' s m r'
      → EqualButCycle (Ok Tangled) (verdict_of r) (verdict_of r') (count_of r) (count_of r') order' order'' cycle' cycle''
  pub judging_island_rest : (s : List ℕ) (m : ℕ) (order order' cycle cycle' : List ℕ) (r : JudgeAnswer) → IslandJudged order order' cycle cycle' s m r
      → drop (count_of r) cycle' ≡ drop (count_of r) cycle
  -- the same of the calls for C
  pub c_listing : (s : List ℕ) → AtMostOne (IslandsCall s)
  pub c_dividing : (s : List ℕ) (m : ℕ) → AtMostOne (IslandHistoryCall s m)
  pub c_judging_island : (s : List ℕ) (m : ℕ) (order order' order'' cycle cycle' cycle'' : List ℕ) (r r' : Judged)
      → IslandJudgeCall s m order order' cycle cycle' r → IslandJudgeCall s m order order'' cycle cycle'' r'
      → EqualButCycle (verdict_numbers (Ok Tangled)) (judged_numbers r) (judged_numbers r') r.count r'.count order' order'' cycle' cycle''
  pub c_judging_island_rest : (s : List ℕ) (m : ℕ) (order order' cycle cycle' : List ℕ) (r : Judged) → IslandJudgeCall s m order order' cycle cycle' r
      → drop r.count cycle' ≡ drop r.count cycle
