use mathlib.Core.Path.{refl}
use native.Mathlib.Omega.{arith}
use Rattle.bits.proofs.Store.{word_is, word_outside}
use Rattle.bits.proofs.Scan.{lowest, found_at, none_yet_more}
use Rattle.bits.proofs.first_outside.Goals as goal

pub returns-then-b-lt64 : goal.returns-then-b-lt64
returns-then-b-lt64 c =
    let a = c.args in
    found_at c.loop-k.invariant (lowest _) (word_outside _ c.outside.ensures (word_is a.t.now a.row refl) (word_is a.mask.now 0 (omega arith)))
    (omega arith) (omega arith)

pub loop-k-preserved : goal.loop-k-preserved
loop-k-preserved c =
    let a = c.args in
    none_yet_more c.loop-k.invariant (lowest _) (word_outside _ c.outside.ensures (word_is a.t.now a.row refl) (word_is a.mask.now 0 (omega arith)))
    (omega arith)
