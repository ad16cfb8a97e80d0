-- The leading zeros of w stand above its last bit.
use native.Mathlib.Omega.{arith}
use Rattle.bits.proofs.Word.{leading_above, leading_at}
use Rattle.bits.proofs.length_of.Goals as goal

pub returns : goal.returns
returns c = record {
  in_word = omega arith;
  here = leading_at 64 c.args.w c.ranges.w.fits;
  after = λ j l h. leading_above 64 c.args.w j c.ranges.w.fits l;
}
