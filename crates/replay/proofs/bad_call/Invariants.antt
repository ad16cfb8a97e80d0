-- `bad_call` is right: at each turn of the loop the rest of the list has the same first bad offset.
use Prim.Native.Nat.{◌*◌}
use mathlib.Core.Path.{◌≡◌}
use lib.ListN.{drop}
use Rattle.replay.specs.Replay.{bad_at}
use Rattle.replay.proofs.bad_call.Given as goal

abbrev pub invariant-loop-i : goal.invariant-loop-i
invariant-loop-i l = bad_at (2 * l.i) (drop (2 * l.i) l.calls) ≡ bad_at 0 l.calls
