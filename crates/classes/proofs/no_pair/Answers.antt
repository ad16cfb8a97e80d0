use native.Mathlib.Omega.{arith}
use Rattle.std.proofs.Common.{below_more}
use Rattle.classes.proofs.no_pair.Goals as goal

pub loop-c-preserved : goal.loop-c-preserved
loop-c-preserved g c = below_more _ _ c.loop-c.invariant (λ b k. c.loop-b.invariant b (omega arith))
