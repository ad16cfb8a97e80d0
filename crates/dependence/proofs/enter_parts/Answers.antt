use Rattle.dependence.proofs.Catalogue.{parts_more}
use Rattle.dependence.proofs.enter_parts.Goals as goal

pub loop-k-preserved : goal.loop-k-preserved
loop-k-preserved c = search parts_more
