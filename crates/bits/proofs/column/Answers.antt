use mathlib.Core.Path.{◌≡◌}
use mathlib.Core.Bool.{cond}
use Prim.Native.Nat.{◌*◌, ◌/◌, ◌%◌, ◌^◌}
use lib.Dec.{eqb}
use borrow.Author.Rules.{rules}
use Rattle.bits.specs.Table.{column}
use Rattle.bits.proofs.Store.{changed_to, column_word}
use Rattle.bits.proofs.column.Goals as goal

pub returns : goal.returns
returns c =
    let a = c.args in
    let r = changed_to {f = column a.col} c.change_row.ensures (λ k w v h o p.
    let e : v ≡ cond (eqb (a.col / 64) k) (1 * 2 ^ (a.col % 64) % 2 ^ 64) 0 = search rules in
    rw e (column_word a.col k)) in
    record { is = r.here }
