-- `largest` is right: it keeps the largest of the bytes passed.
use Prim.Native.Nat.{◌+◌}
use Rattle.valid.proofs.Scans.{LargestTo}
use Rattle.valid.proofs.largest.Given as goal

abbrev pub invariant-loop-x : goal.invariant-loop-x
invariant-loop-x l = LargestTo l.s l.start (l.start + l.x-index) l.m
