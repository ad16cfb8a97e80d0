use mathlib.Core.Path.{refl}
use native.Mathlib.Nat.{le_refl}
use native.Mathlib.Omega.{arith}
use Rattle.buffer.proofs.InTurn.{putting_exact, putting_left, putting_next}
use Rattle.buffer.proofs.put_pieces.Goals as goal

pub loop-i-init : goal.loop-i-init
loop-i-init g c = putting_exact refl c.requires.1

pub put-n-requires : goal.put-n-requires
put-n-requires g c =
    (c.requires.0, omega (arith, c.loop-i-test.true, c.count-i-end.ensures), putting_left c.loop-i.invariant (omega (arith, c.loop-i-test.true, c.count-i-end.ensures)))

pub loop-i-preserved : goal.loop-i-preserved
loop-i-preserved g c = putting_next c.loop-i.invariant (omega (arith, c.loop-i-test.true, c.count-i-end.ensures)) (le_refl _) c.put-n.ensures
