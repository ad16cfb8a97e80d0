use Rattle.dependence.proofs.Steps.{next_left, read_more}
use borrow.Author.Rules.{rules}
use Rattle.dependence.proofs.read_steps.Goals as goal

pub next_step-r-requires-clause-left : goal.next_step-r-requires-clause-left
next_step-r-requires-clause-left c = search (rules, next_left)

pub loop-q-preserved : goal.loop-q-preserved
loop-q-preserved c = search read_more
