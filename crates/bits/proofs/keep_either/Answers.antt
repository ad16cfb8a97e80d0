use mathlib.Core.Path.{◌≡◌, refl}
use Prim.Native.Nat.{◌+◌, ◌*◌}
use borrow.Author.Rules.{rules}
use lib.ListN.{get_or}
use lib.Bits.{bit_and, bit_or}
use Rattle.bits.specs.Table.{row_words}
use Rattle.bits.proofs.Store.{changed_to, word_is, word_or, word_and}
use Rattle.bits.proofs.keep_either.Goals as goal

pub returns : goal.returns
returns c =
    let a = c.args in
    changed_to c.change_row.ensures (λ k w v h o p.
    let e : v ≡ bit_and w (bit_or (get_or a.t.now (row_words * a.a + k) 0) (get_or a.t.now (row_words * a.b + k) 0)) = search rules in
    rw e (word_and o (word_or (word_is a.t.now a.a refl) (word_is a.t.now a.b refl))))
