use Prim.Native.Nat.{ℕ, ◌<◌}
use mathlib.Core.Path.{◌≡◌}
use native.Mathlib.Omega.{arith}
use borrow.Author.Rules.{rules}
use lib.ListN.{get_or}
use Rattle.bits.specs.Table.{bit, difference}
use Rattle.bits.proofs.Store.{word_is, word_outside}
use Rattle.bits.proofs.last_outside.Goals as goal

pub returns : goal.returns
returns c =
    let a = c.args in
    c.last.ensures.last _ (λ k w h p.
    let e : (b : ℕ) → b < 64 → bit w b ≡ difference (bit (get_or a.m.now k 0)) (bit (get_or a.mask.now k 0)) b = search rules in
    word_outside w e (word_is a.m.now 0 (omega arith)) (word_is a.mask.now 0 (omega arith)))
