-- Each answer meets its call's contract, and answers that do are as `claims` says.
use Rattle.demands.proofs.IslandVerdicts.{whole_by_islands}
use borrow.Author.Rules.{rules}
use Rattle.demands.proofs.islands_judged.Goals as goal

pub returns : goal.returns
returns c = search (rules, whole_by_islands)
