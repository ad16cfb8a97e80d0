use native.Mathlib.Omega.{arith}
use Rattle.graph.proofs.UnitRows.{row_put}
use Rattle.graph.proofs.copy_row.Goals as goal

pub returns : goal.returns
returns c =
    row_put _ _ _ _ _ _ _ c.loop-o.invariant c.loop-o-test.false c.copy_from_slice.ensures.after c.requires.to_row c.told-t (omega arith)
