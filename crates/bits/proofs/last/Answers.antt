use native.Mathlib.Omega.{arith}
use Rattle.bits.proofs.Scan.{last_at, none_above_more}
use Rattle.bits.proofs.last.Goals as goal

pub returns-then-n-gt0 : goal.returns-then-n-gt0
returns-then-n-gt0 g c = record {
  last = λ f words. last_at (c.loop-k.invariant f words) (omega arith) c.length_of-n.ensures (words _ _ (omega arith) c.word.ensures) (omega arith);
}

pub loop-k-preserved : goal.loop-k-preserved
loop-k-preserved g c =
    λ f words. none_above_more (c.loop-k.invariant f words) (omega arith) c.length_of-n.ensures (words _ _ (omega arith) c.word.ensures) (omega arith)
