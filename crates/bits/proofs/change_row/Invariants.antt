-- After k turns the first k words of the row are changed, and its others are as they were.
use mathlib.Core.Path.{◌≡◌}
use lib.ListN.{length}
use Rattle.bits.specs.Table.{row_words}
use Rattle.bits.proofs.Store.{ChangedUpTo}
use Rattle.bits.proofs.change_row.Given as goal

abbrev pub invariant-loop-k : goal.invariant-loop-k
invariant-loop-k g l = (length l.w-items ≡ row_words) × ChangedUpTo (goal.F-post g l.word) l.initial.w-items l.w-items 0 l.k
