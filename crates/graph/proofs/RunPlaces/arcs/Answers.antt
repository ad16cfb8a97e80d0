use Rattle.graph.proofs.ArcMarks.{places_more}
use Rattle.graph.proofs.RunPlaces.arcs.Goals as goal

pub loop-q-preserved : goal.loop-q-preserved
loop-q-preserved c = search places_more
