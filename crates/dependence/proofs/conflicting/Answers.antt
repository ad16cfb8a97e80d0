use Rattle.dependence.proofs.Catalogue.{at_keep, at_all}
use Rattle.dependence.proofs.conflicting.Goals as goal

pub loop-k-preserved : goal.loop-k-preserved
loop-k-preserved c = search at_keep

pub returns : goal.returns
returns c = search at_all
