-- `count_of` is right: it counts x in the bytes passed.
use lib.ListN.{take}
use Rattle.valid.proofs.Scans.{CountTo}
use Rattle.valid.proofs.count_of.Given as goal

abbrev pub invariant-loop-y : goal.invariant-loop-y
invariant-loop-y l = CountTo (take l.n l.s) l.x l.y-index l.found
