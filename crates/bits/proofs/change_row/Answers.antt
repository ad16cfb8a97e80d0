use native.Mathlib.Omega.{arith}
use Rattle.bits.proofs.Store.{row_put}
use Rattle.bits.proofs.change_row.Goals as goal

pub returns : goal.returns
returns g c =
    let i = c.loop-k.invariant in
    row_put c.args.t.now c.loop-k.w-items c.args.row _ c.loop-k.k (omega arith) i.0 (omega arith) (omega (arith, i.0)) i.1
