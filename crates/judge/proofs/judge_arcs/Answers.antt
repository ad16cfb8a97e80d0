-- Where the turns take all n places they are the whole greedy order; else no place is ready, and the walk back finds a cycle.
use Rattle.judge.proofs.Verdicts.{judge_passed, judge_stuck, judge_tangled}
use borrow.Author.Rules.{rules}
use Rattle.judge.proofs.judge_arcs.Goals as goal

pub returns-then-t-n : goal.returns-then-t-n
returns-then-t-n c = search judge_passed

pub find_cycle-requires : goal.find_cycle-requires
find_cycle-requires c = (search (rules, judge_stuck), search rules)

pub returns : goal.returns
returns c = search judge_tangled
