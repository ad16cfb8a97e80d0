use Rattle.bits.specs.Table.{row_words}
use Rattle.classes.proofs.SerialLaws.{together_none, together_all, together_same, apart, together_new}
use Rattle.classes.proofs.stands_together.Goals.{then-has+else-run_of-r, else-has}
use Rattle.classes.proofs.stands_together.Goals as goal

pub loop-p-init : goal.loop-p-init
loop-p-init c = together_none _ row_words

pub returns-then-run_of-r : goal.returns-then-run_of-r
returns-then-run_of-r c = search apart

pub loop-p-preserved : goal.loop-p-preserved
loop-p-preserved c =
    elim c.if-has.branch [
      | then-has+else-run_of-r w ↦ rw w.seen-is (together_same _ _ c.requires _ _ c.loop-p.invariant _ c.run_of-r.ensures _ c.has.ensures _ w.run_of.ensures w.if-has.true w.if-run_of-r.false)
      | else-has w ↦ rw w.seen-is (together_new _ _ c.requires _ _ c.loop-p.invariant _ c.run_of-r.ensures _ c.has.ensures w.if-has.false _ w.add.ensures)
    ]

pub returns : goal.returns
returns c = search together_all
