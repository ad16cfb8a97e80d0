-- The linked places are those on which the place read directly depends. With what they depend on they are its dependence row. The catalogues have one step
-- more.
use Rattle.dependence.proofs.DependenceRows.{step_read}
use Rattle.dependence.proofs.read_in_range.Goals as goal

pub returns : goal.returns
returns c = search step_read
