-- The invariant `Filled`: the tables hold the first n of the list as a history. Each turn adds one step, which its run has left.
use Rattle.book.proofs.WithHistory.{Filled}
use Rattle.book.proofs.with_history.Given as goal

abbrev pub invariant-loop-n : goal.invariant-loop-n
invariant-loop-n l = Filled l.b l.list l.counts l.history l.n
