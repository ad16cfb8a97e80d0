-- The lines of done steps, classes and verdict, each behind the one before.
use Rattle.buffer.proofs.PutLaws.{behind, put_is}
use Rattle.report.specs.Inner.Lines.{verdict_by}
use Rattle.report.proofs.TextLaws.{findings_text}
use Rattle.report.proofs.put_findings.Goals as goal

pub returns : goal.returns
returns c =
    let verdict = c in
    let classes = verdict in
    let done = classes in
    let a = done.args in
    put_is (behind (behind done.put_done-done_end.ensures.put classes.put_classes-n.ensures.put) verdict.put_verdict-m.ensures.put) (findings_text a.done a.classes (verdict_by a.evidence))
