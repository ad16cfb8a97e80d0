-- The linked places are those on which the place read directly depends, and the row of its run takes them. The catalogues have one step more.
use Rattle.dependence.proofs.DependenceRows.{step_linked}
use Rattle.dependence.proofs.link_in_range.Goals as goal

pub returns : goal.returns
returns c = search step_linked
