-- The five classes of histories are nested (document 02, change 2, which calls this the ladder of classes, and the classes rings), as a statement about
-- the answers of the calls: of the four class tests and the judge, of their entries for C in numbers, and of the program's text.
use Rattle.std.specs.Prelude.{Ok, ℕ, ◌≤◌, ◌≡◌, true, List, length}
use Rattle.theory.specs.Deck.{Cut}
use Rattle.theory.specs.Rows.{HistoryRow, pairs, row_3, row_6, row_8}
use Rattle.book.specs.Format.{Bytes, Contents, contents, with_cuts, accepted, step_limit, read}
use Rattle.book.specs.Numbers.{value_of}
use Rattle.book.specs.Meaning.{SerialHistory, RelativelyAtomicHistory, RelativelySerialHistory, ConflictSerializableHistory}
use Rattle.book.specs.Render.{render}
use Rattle.classes.specs.Tested.{Yes, No, Tested, tested_numbers, TestedAs}
use Rattle.judge.specs.Judged.{JudgeAnswer, verdict_of, verdict_numbers}
use Rattle.judge.specs.Judge.{BytesJudged}
use Rattle.judge.specs.declared.Verdict.TheVariants.{Passed}
use Rattle.report.specs.Text.{Findings, accepted_with, Verdict as ReportVerdict, passed}
use Rattle.report.specs.Reporting.{Reports}
use Rattle.capi.specs.Calls.{TestCall, JudgeCall}
use Rattle.capi.specs.declared.Answered.{Answered}
use Rattle.capi.specs.declared.Judged.{Judged}
use Rattle.claims.specs.Demands.{answered_numbers, judged_numbers}

-- ---- nested

-- each parameter says of one book, by an answer, that its history is in the class
pub record Nested (IsSerial IsAtomic IsRelserial IsConflict IsPassed : Type 0) : Type 0 where
  -- Every serial history is relatively atomic,
  pub serial_atomic : IsSerial → IsAtomic
  -- every relatively atomic one relatively serial,
  pub atomic_relserial : IsAtomic → IsRelserial
  -- and every relatively serial one passed.
  pub relserial_passed : IsRelserial → IsPassed
  -- Every serial history is also conflict serializable,
  pub serial_conflict : IsSerial → IsConflict
  -- and every conflict serializable one is passed, under the book's own cuts
  pub conflict_passed : IsConflict → IsPassed

-- "under any cuts": the book of s' differs from that of s in its cuts alone
pub record OtherCuts (s s' : List ℕ) : Type 0 where
  pub held : Contents
  pub cuts : List Cut
  pub book : read s ≡ accepted held
  pub other : read s' ≡ accepted (with_cuts held cuts)

-- ---- the answers to a book, each as the call's contract has it

-- what the judge promises, called with some buffers as long as it asks: before the call, and with ' after it
pub record WithLongBuffers (P : List ℕ → List ℕ → List ℕ → List ℕ → Type 0) : Type 0 where
  pub order : List ℕ
  pub order' : List ℕ
  pub cycle : List ℕ
  pub cycle' : List ℕ
  pub order_long : step_limit ≤ length order
  pub cycle_long : step_limit ≤ length cycle
  pub promise : P order order' cycle cycle'

abbrev pub JudgeAnswered : List ℕ → JudgeAnswer → Type 0
JudgeAnswered s j = WithLongBuffers (λ order order' cycle cycle'. BytesJudged order order' cycle cycle' s j)

pub record ClassesAnswered (s : List ℕ) (serial atomic relserial conflict : Tested) (j : JudgeAnswer) : Type 0 where
  pub serial_is : TestedAs SerialHistory s serial
  pub atomic_is : TestedAs RelativelyAtomicHistory s atomic
  pub relserial_is : TestedAs RelativelySerialHistory s relserial
  pub conflict_is : TestedAs ConflictSerializableHistory s conflict
  pub judgement_is : JudgeAnswered s j

-- the same for C
abbrev pub DeckJudgeAnswered : List ℕ → Judged → Type 0
DeckJudgeAnswered s r = WithLongBuffers (λ order order' cycle cycle'. JudgeCall s order order' cycle cycle' r)

pub record DeckClassesAnswered (s : List ℕ) (serial atomic relserial conflict : Answered) (j : Judged) : Type 0 where
  pub serial_is : TestCall SerialHistory s serial
  pub atomic_is : TestCall RelativelyAtomicHistory s atomic
  pub relserial_is : TestCall RelativelySerialHistory s relserial
  pub conflict_is : TestCall ConflictSerializableHistory s conflict
  pub judgement_is : DeckJudgeAnswered s j

-- in numbers, yes and passed are each the value 1, and no refusal
abbrev pub SaysYes : Answered → Type 0
SaysYes r = answered_numbers r ≡ value_of 1

abbrev pub SaysPassed : Judged → Type 0
SaysPassed r = judged_numbers r ≡ value_of 1

-- the text says that the verdict is passed
abbrev pub TextSaysPassed : ReportVerdict → Type 0
TextSaysPassed v = (order : List ℕ) × (v ≡ passed order)

-- the classes are nested, as the four tests and the judge answer
abbrev pub NestedCalls : Tested → Tested → Tested → Tested → JudgeAnswer → Type 0
NestedCalls serial atomic relserial conflict j = Nested (serial ≡ Yes) (atomic ≡ Yes) (relserial ≡ Yes) (conflict ≡ Yes) (verdict_of j ≡ Ok Passed)

abbrev pub NestedDeckCalls : Answered → Answered → Answered → Answered → Judged → Type 0
NestedDeckCalls serial atomic relserial conflict j = Nested (SaysYes serial) (SaysYes atomic) (SaysYes relserial) (SaysYes conflict) (SaysPassed j)

abbrev pub NestedFindings : Findings → Type 0
NestedFindings w = Nested (w.serial ≡ true) (w.atomic ≡ true) (w.relserial ≡ true) (w.conflict ≡ true) (TextSaysPassed w.verdict)

-- ---- where the classes are wider

-- the book of a row
abbrev pub row_contents : HistoryRow → Contents
row_contents t = contents pairs t.runs t.cuts t.history

abbrev pub row_bytes : HistoryRow → List ℕ
row_bytes t = render (row_contents t)

-- a row's book is accepted, the four class tests answer these, in document 01's order, and the judge says passed; and so do the entries for C in numbers
pub record RowPassed (t : HistoryRow) (serial atomic relserial conflict : Tested) : Type 0 where
  pub bytes : Bytes (row_bytes t)
  pub book : read (row_bytes t) ≡ accepted (row_contents t)
  pub answers : (serial' atomic' relserial' conflict' : Tested) (j : JudgeAnswer) → ClassesAnswered (row_bytes t) serial' atomic' relserial' conflict' j
      → (serial' ≡ serial) × (atomic' ≡ atomic) × (relserial' ≡ relserial) × (conflict' ≡ conflict) × (verdict_of j ≡ Ok Passed)
  pub deck_answers : (serial' atomic' relserial' conflict' : Answered) (j : Judged) → DeckClassesAnswered (row_bytes t) serial' atomic' relserial' conflict' j
      → (answered_numbers serial' ≡ tested_numbers serial) × (answered_numbers atomic' ≡ tested_numbers atomic) × (answered_numbers relserial' ≡ tested_numbers relserial)
      × (answered_numbers conflict' ≡ tested_numbers conflict) × (judged_numbers j ≡ verdict_numbers (Ok Passed))

-- ---- the statement

-- s is any bytes: where they are refused as a book, so is every call
pub record ClassesNested : Type 0 where
  pub calls : (s : List ℕ) (serial atomic relserial conflict : Tested) (j : JudgeAnswer) → ClassesAnswered s serial atomic relserial conflict j
      → NestedCalls serial atomic relserial conflict j
  pub calls_any_cuts : (s s' : List ℕ) → OtherCuts s s' → (conflict : Tested) (j : JudgeAnswer) → TestedAs ConflictSerializableHistory s conflict → JudgeAnswered s' j
      → conflict ≡ Yes → verdict_of j ≡ Ok Passed
  -- for C
  pub deck_calls : (s : List ℕ) (serial atomic relserial conflict : Answered) (j : Judged) → DeckClassesAnswered s serial atomic relserial conflict j
      → NestedDeckCalls serial atomic relserial conflict j
  pub deck_any_cuts : (s s' : List ℕ) → OtherCuts s s' → (conflict : Answered) (j : Judged) → TestCall ConflictSerializableHistory s conflict → DeckJudgeAnswered s' j
      → SaysYes conflict → SaysPassed j
  -- of the program's text, as `report` puts it into a buffer
  pub text : (s before after : List ℕ) (n : ℕ) (p : Reports (read s) before after n) (w : Findings) → p.report ≡ accepted_with w → NestedFindings w
  pub text_any_cuts : (s s' : List ℕ) → OtherCuts s s' → (before after before' after' : List ℕ) (n n' : ℕ)
      → (p : Reports (read s) before after n) (p' : Reports (read s') before' after' n') (w w' : Findings) → p.report ≡ accepted_with w → p'.report ≡ accepted_with w'
      → w.conflict ≡ true → TextSaysPassed w'.verdict
  -- Rows 3, 6 and 8 show where the classes are wider. Row 3 is conflict serializable and not serial, passed and not relatively serial
  pub wider_3 : RowPassed row_3 No No No Yes
  -- Row 6 is relatively atomic and not serial, passed and not conflict serializable
  pub wider_6 : RowPassed row_6 No Yes Yes No
  -- Row 8 is relatively serial and not relatively atomic
  pub wider_8 : RowPassed row_8 No No Yes Yes
