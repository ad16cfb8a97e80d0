use native.Mathlib.Omega.{arith}
use Rattle.bits.proofs.Store.{alone_added}
use Rattle.bits.proofs.add.Goals as goal

pub returns : goal.returns
returns c = alone_added _ _ _ _ _ (omega arith) c.column.ensures c.add_all.ensures
