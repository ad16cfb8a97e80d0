-- `counts_valid` is right: it compares the runs one by one, and stops at the first that fails.
use Rattle.valid.specs.Inner.Tables.{CountsValid}
use Rattle.valid.proofs.counts_valid.Given as goal

abbrev pub invariant-loop-r : goal.invariant-loop-r
invariant-loop-r l = CountsValid l.b.lengths l.b.counts l.b.history l.b.done l.r
