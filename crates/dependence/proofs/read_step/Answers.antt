-- Each test that fails says that something is out of range; where none does, the step is read.
use Rattle.dependence.proofs.DependenceRows.{no_kind}
use Rattle.dependence.proofs.read_step.Goals as goal

pub returns : goal.returns
returns c = search no_kind
