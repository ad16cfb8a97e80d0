-- The invariant is `TurnsSoFar`: a turn takes the smallest ready place, so it is a turn of theory's greedy order.
use Rattle.turns.proofs.GreedyTurns.{TurnsSoFar}
use Rattle.turns.proofs.greedy.Given as goal

abbrev pub invariant-loop-count : goal.invariant-loop-count
invariant-loop-count l = TurnsSoFar l.history l.n l.arc l.order l.taken l.from l.count
