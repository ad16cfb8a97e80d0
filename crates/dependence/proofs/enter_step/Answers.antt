-- Each way out has entered the touches that x has.
use Rattle.dependence.proofs.Touches.{single_low, first_low, second_low}
use borrow.Author.Rules.{rules}
use Rattle.dependence.proofs.enter_step.Goals as goal

pub enter-requires : goal.enter-requires
enter-requires c = search (rules, single_low)

pub enter-requires-in-Transfer : goal.enter-requires-in-Transfer
enter-requires-in-Transfer c = search (rules, first_low)

pub enter-requires-in-Transfer-2 : goal.enter-requires-in-Transfer-2
enter-requires-in-Transfer-2 c = search (rules, second_low, first_low)
