-- The invariant: the places so far are distinct, and each has an arc from the one before, the first from the last; `seen` has them.
use Rattle.evidence.proofs.CycleLaws.{WalkedUpTo}
use Rattle.evidence.proofs.cycle_by.Given as goal

abbrev pub invariant-loop-place : goal.invariant-loop-place
invariant-loop-place l = WalkedUpTo l.g l.c l.seen l.place-index l.before
