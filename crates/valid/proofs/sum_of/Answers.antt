use Rattle.valid.proofs.Scans.{sum_more}
use Rattle.valid.proofs.sum_of.Goals as goal

pub loop-x-preserved : goal.loop-x-preserved
loop-x-preserved c = search sum_more
