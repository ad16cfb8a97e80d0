-- `set_from` is right: each turn adds 1 where the number is not 0.
use Prim.Native.Nat.{◌+◌}
use Rattle.valid.proofs.Scans.{CountedTo}
use Rattle.valid.proofs.set_from.Given as goal

abbrev pub invariant-loop-x : goal.invariant-loop-x
invariant-loop-x l = CountedTo l.s 1 l.start (l.start + l.x-index) l.n
