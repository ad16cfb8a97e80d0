-- Each line behind the one before.
use Rattle.report.proofs.TextLaws.{four_classes}
use native.Mathlib.Omega.{arith}
use Rattle.report.proofs.WithinLaws.{behind_within, within_is}
use Rattle.report.proofs.put_classes.Goals as goal

pub returns : goal.returns
returns c =
    let conflict = c in
    let relserial = conflict in
    let atomic = relserial in
    let serial = atomic in
    within_is (behind_within (behind_within (behind_within serial.put_class-serial_end.ensures atomic.put_class-n.ensures) relserial.put_class-m.ensures) conflict.put_class-k.ensures) (four_classes serial.args.c) (omega arith)
