use Rattle.islands.proofs.Naming.{connected_none, connected_more, connected_all}
use Rattle.islands.proofs.connect_run.Goals as goal

pub loop-s-init : goal.loop-s-init
loop-s-init c = search connected_none

pub loop-s-preserved : goal.loop-s-preserved
loop-s-preserved c = search connected_more

pub returns : goal.returns
returns c = search connected_all
