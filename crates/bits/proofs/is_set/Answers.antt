-- The word shifted down to the bit of the column and cut to one bit is the bit of the table.
use mathlib.Core.Path.{refl, ap}
use Prim.Native.Nat.{ℕ}
use lib.Dec.{eqb}
use Rattle.bits.proofs.Store.{read_bit}
use Rattle.bits.proofs.is_set.Goals as goal

pub returns : goal.returns
returns g c =
    let a = c.args in
    ap (λ (x : ℕ). eqb x 1) (read_bit a.t.now _ a.row a.col refl)
