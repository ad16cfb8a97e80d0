-- The words are searched from the last down: before each turn no later word has a column.
use Prim.Native.Nat.{ℕ, ◌<◌}
use Rattle.bits.specs.Table.{row_words}
use Rattle.bits.specs.Inner.Words.{WordOf}
use Rattle.bits.proofs.Scan.{NoneAbove}
use Rattle.bits.proofs.last.Given as goal

abbrev pub invariant-loop-k : goal.invariant-loop-k
invariant-loop-k g l = (f : ℕ → ℕ) → ((k w : ℕ) → k < row_words → goal.F-post g l.word k w → WordOf f k w) → NoneAbove f l.k
