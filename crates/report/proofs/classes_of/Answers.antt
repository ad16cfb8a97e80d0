-- Each class is what its test answers.
use Rattle.report.proofs.FindingsLaws.{answer_is}
use Rattle.report.proofs.classes_of.Goals as goal

pub returns : goal.returns
returns c = record {
  serial_is = answer_is _ c.is_serial-serial.ensures;
  atomic_is = answer_is _ c.is_relatively_atomic-atomic.ensures;
  relserial_is = answer_is _ c.is_relatively_serial-relserial.ensures;
  conflict_is = answer_is _ c.is_conflict_serializable-conflict.ensures;
}
