-- The invariant `LeftOut`: the tables hold those of the first i steps that stay. Each turn adds one, or leaves one out.
use Rattle.book.proofs.LeaveOut.{LeftOut}
use Rattle.book.proofs.leave_out.Given as goal

abbrev pub invariant-loop-run : goal.invariant-loop-run
invariant-loop-run l = LeftOut l.fn.b l.flags l.counts l.history l.done l.run-index
