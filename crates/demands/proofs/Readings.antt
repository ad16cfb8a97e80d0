-- The answers of the calls on the same bytes, the judge with buffers as long as it asks.
use Prim.Native.Nat.{◌≤◌}
use mathlib.Core.List.{List}
use Prim.Native.Nat.{ℕ}
use lib.ListN.{length}
use Rattle.book.specs.Format.{step_limit}
use Rattle.book.specs.Meaning.{SerialHistory, RelativelyAtomicHistory, RelativelySerialHistory, ConflictSerializableHistory}
use Rattle.classes.specs.Tested.{Tested, TestedAs}
use Rattle.judge.specs.Judged.{JudgeAnswer}
use Rattle.judge.specs.Judge.{BytesJudged}
use Rattle.capi.specs.Calls.{TestCall, JudgeCall}
use Rattle.capi.specs.declared.Answered.{Answered}
use Rattle.capi.specs.declared.Judged.{Judged}
use Rattle.claims.specs.Classes.{ClassesAnswered, DeckClassesAnswered}

pub answered : {s order order' cycle cycle' : List ℕ} {serial atomic relserial conflict : Tested} {j : JudgeAnswer} → TestedAs SerialHistory s serial
    → TestedAs RelativelyAtomicHistory s atomic → TestedAs RelativelySerialHistory s relserial → TestedAs ConflictSerializableHistory s conflict
    → BytesJudged order order' cycle cycle' s j → step_limit ≤ length order → step_limit ≤ length cycle → ClassesAnswered s serial atomic relserial conflict j
answered serial atomic relserial conflict judged a b = record {
  serial_is = serial;
  atomic_is = atomic;
  relserial_is = relserial;
  conflict_is = conflict;
  judgement_is = record { order = _; order' = _; cycle = _; cycle' = _; order_long = a; cycle_long = b; promise = judged };
}

-- the same for C
pub deck_answered : {s order order' cycle cycle' : List ℕ} {serial atomic relserial conflict : Answered} {j : Judged} → TestCall SerialHistory s serial
    → TestCall RelativelyAtomicHistory s atomic → TestCall RelativelySerialHistory s relserial → TestCall ConflictSerializableHistory s conflict
    → JudgeCall s order order' cycle cycle' j → step_limit ≤ length order → step_limit ≤ length cycle → DeckClassesAnswered s serial atomic relserial conflict j
deck_answered serial atomic relserial conflict judged a b = record {
  serial_is = serial;
  atomic_is = atomic;
  relserial_is = relserial;
  conflict_is = conflict;
  judgement_is = record { order = _; order' = _; cycle = _; cycle' = _; order_long = a; cycle_long = b; promise = judged };
}
