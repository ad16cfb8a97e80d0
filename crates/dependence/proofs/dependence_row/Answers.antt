use Rattle.dependence.proofs.DependenceRows.{closure_none, closure_less, closure_more, closure_full, closure_end}
use Rattle.dependence.proofs.dependence_row.Goals as goal

pub loop-end-init : goal.loop-end-init
loop-end-init c = search closure_none

pub loop-end-smaller : goal.loop-end-smaller
loop-end-smaller c = search closure_less

pub loop-end-preserved : goal.loop-end-preserved
loop-end-preserved c = search closure_more

pub returns-in-None : goal.returns-in-None
returns-in-None c = search closure_full

pub returns : goal.returns
returns c = search closure_end
