use Rattle.graph.proofs.ArcMarks.{runs_more, runs_all}
use Rattle.graph.proofs.arcs.Goals as goal

pub loop-r-preserved : goal.loop-r-preserved
loop-r-preserved c = search runs_more

pub returns : goal.returns
returns c = search runs_all
