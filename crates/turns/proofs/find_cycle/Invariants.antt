-- The invariant is `Walked`: the places so far are distinct and none of them is taken, so each has a source that is not taken
-- either, and within n turns one comes again.
use mathlib.Core.Path.{◌≡◌}
use Rattle.turns.proofs.WalkBack.{Walked}
use Rattle.turns.proofs.find_cycle.Given as goal

abbrev pub invariant-loop-len : goal.invariant-loop-len
invariant-loop-len l = (l.cycle ≡ l.initial.cycle) × Walked l.arc l.taken l.n l.trail l.seen l.v l.len
