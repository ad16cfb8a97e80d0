use Rattle.dependence.proofs.Steps.{starts_fit, starts_more}
use Rattle.dependence.proofs.starts.Goals as goal

pub overflow_add-s : goal.overflow_add-s
overflow_add-s c = search starts_fit

pub loop-r-preserved : goal.loop-r-preserved
loop-r-preserved c = search starts_more
