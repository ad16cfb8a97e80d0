-- The findings are those of the class tests and of the judge, whose evidence is in the front parts of its buffers.
use native.Mathlib.Omega.{arith}
use Rattle.report.proofs.FindingsLaws.{findings_on, count_short, few_done, text_put}
use Rattle.report.proofs.put_accepted.Goals as goal

pub evidence_of-evidence-requires : goal.evidence_of-evidence-requires
evidence_of-evidence-requires c =
    let judged = c.judge_book-judgement in
    count_short _ judged.new.order _ judged.new.cycle (omega arith) (omega arith) c.args.b c.requires.0 judged.result.verdict judged.result.count judged.ensures.judged_as

pub put_findings-requires : goal.put_findings-requires
put_findings-requires c =
    let start = c in
    (few_done start.args.b start.requires.0, c.evidence_of-evidence.ensures.short, start.requires.1)

pub returns : goal.returns
returns c =
    let judged = c.judge_book-judgement in
    text_put _
    (findings_on _ judged.new.order _ judged.new.cycle _ judged.new.values (omega arith) (omega arith) c.args.b c.requires.0 c.classes_of-classes.result c.classes_of-classes.ensures judged.result judged.ensures.judged_as judged.ensures.evidence_named _ c.evidence_of-evidence.ensures.verdict_is)
    c.put_findings.ensures
