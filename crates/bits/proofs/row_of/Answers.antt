use mathlib.Core.Path.{◌≡◌, refl}
use Prim.Native.Nat.{◌+◌, ◌*◌}
use borrow.Author.Rules.{rules}
use lib.ListN.{get_or}
use Rattle.bits.specs.Table.{row_words, bit_at}
use Rattle.bits.proofs.Store.{changed_to, word_is}
use Rattle.bits.proofs.row_of.Goals as goal

pub returns : goal.returns
returns c =
    let a = c.args in
    let r = changed_to {f = bit_at a.t.now a.row} c.change_row.ensures (λ k w v h o p.
    let e : v ≡ get_or a.t.now (row_words * a.row + k) 0 = search rules in
    rw e (word_is a.t.now a.row refl)) in
    record { same = r.here }
