-- The last place of q's own run that q depends on is the one before it; without a last there is none.
use Rattle.graph.proofs.ArcMarks.{found_none, found_own}
use Rattle.graph.proofs.RunPlaces.arcs_between.Goals as goal

pub returns-then-self-s : goal.returns-then-self-s
returns-then-self-s c = search found_own

pub returns-in_default : goal.returns-in_default
returns-in_default c = search found_none
