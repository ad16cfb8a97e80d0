use Rattle.turns.proofs.GreedyTurns.{turns_none, turns_more}
use Rattle.turns.proofs.greedy.Goals as goal

pub loop-count-init : goal.loop-count-init
loop-count-init c = search turns_none

pub loop-count-preserved : goal.loop-count-preserved
loop-count-preserved c = turns_more _ _ _ c.requires _ _ _ _ _ _ _ c.loop-count.invariant c.loop-count-test.true c.in-Some.ensures c.add.ensures c.untaken-from.ensures
