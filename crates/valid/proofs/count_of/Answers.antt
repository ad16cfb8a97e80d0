use Rattle.valid.proofs.Scans.{count_one, count_other}
use Rattle.valid.proofs.count_of.Goals.{then-y-x, else-y-x}
use Rattle.valid.proofs.count_of.Goals as goal

pub loop-y-preserved : goal.loop-y-preserved
loop-y-preserved c = elim c.if-y-x.branch [ then-y-x w ↦ search count_one | else-y-x w ↦ search count_other ]
