use mathlib.Core.Path.{◌≡◌, refl}
use Prim.Native.Nat.{◌+◌, ◌*◌}
use native.Mathlib.Omega.{arith}
use borrow.Author.Rules.{rules}
use lib.ListN.{get_or}
use lib.Bits.{bit_and}
use Rattle.bits.specs.Table.{row_words}
use Rattle.bits.proofs.Store.{word_is, word_and}
use Rattle.bits.proofs.last_within.Goals as goal

pub returns : goal.returns
returns c =
    let a = c.args in
    c.last.ensures.last _ (λ k w h p.
    let e : w ≡ bit_and (get_or a.t.now (row_words * a.row + k) 0) (get_or a.mask.now k 0) = search rules in
    rw e (word_and (word_is a.t.now a.row refl) (word_is a.mask.now 0 (omega arith))))
