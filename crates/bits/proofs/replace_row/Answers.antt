use mathlib.Core.Path.{◌≡◌}
use native.Mathlib.Omega.{arith}
use borrow.Author.Rules.{rules}
use lib.ListN.{get_or}
use Rattle.bits.proofs.Store.{changed_to, word_is}
use Rattle.bits.proofs.replace_row.Goals as goal

pub returns : goal.returns
returns c =
    let a = c.args in
    changed_to c.change_row.ensures (λ k w v h o p.
    let e : v ≡ get_or a.m.now k 0 = search rules in
    rw e (word_is a.m.now 0 (omega arith)))
