use mathlib.Core.Path.{◌≡◌, refl}
use Prim.Native.Nat.{◌+◌, ◌*◌}
use borrow.Author.Rules.{rules}
use lib.ListN.{get_or}
use lib.Bits.{bit_or}
use Rattle.bits.specs.Table.{row_words}
use Rattle.bits.proofs.Store.{changed_to, word_is, word_or}
use Rattle.bits.proofs.add_row.Goals as goal

pub returns : goal.returns
returns c =
    let a = c.args in
    changed_to c.change_row.ensures (λ k w v h o p.
    let e : v ≡ bit_or w (get_or a.t.now (row_words * a.row + k) 0) = search rules in
    rw e (word_or o (word_is a.t.now a.row refl)))
