use mathlib.Core.Path.{◌≡◌, refl}
use Prim.Native.Nat.{◌+◌, ◌*◌}
use native.Mathlib.Omega.{arith}
use borrow.Author.Rules.{rules}
use lib.ListN.{get_or}
use lib.Bits.{bit_and, bit_or}
use Rattle.bits.specs.Table.{row_words}
use Rattle.bits.proofs.Store.{changed_to, word_is, word_or, word_and}
use Rattle.bits.proofs.join_within.Goals as goal

pub returns : goal.returns
returns c =
    let a = c.args in
    changed_to c.change_row.ensures (λ k w v h o p.
    let e : v ≡ bit_or w (bit_and (get_or a.u.now (row_words * a.src + k) 0) (get_or a.mask.now k 0)) = search rules in
    rw e (word_or o (word_and (word_is a.u.now a.src refl) (word_is a.mask.now 0 (omega arith)))))
