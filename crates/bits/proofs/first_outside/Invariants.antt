-- Before each turn no earlier word has a column of the row outside the mask, and trailing zeros find the first one of a word.
use Rattle.bits.specs.Table.{bit_at, difference}
use Rattle.bits.proofs.Scan.{NoneYet}
use Rattle.bits.proofs.first_outside.Given as goal

abbrev pub invariant-loop-k : goal.invariant-loop-k
invariant-loop-k l = NoneYet (difference (bit_at l.t l.row) (bit_at l.mask 0)) l.k
