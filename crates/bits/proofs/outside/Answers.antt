-- Each of the 64 bits of !m is the other one than that of m.
use mathlib.Core.Path.{ap, ◌∙◌}
use Prim.Native.Nat.{◌-◌, ◌^◌, min}
use Rattle.bits.specs.Table.{bit}
use Rattle.bits.proofs.Word.{bit_of_and, bit_not}
use Rattle.bits.proofs.outside.Goals as goal

pub returns : goal.returns
returns c =
    let a = c.args in
    λ b h. bit_of_and a.w (2 ^ 64 - 1 - a.m) b ∙ ap (min (bit a.w b)) (bit_not 64 a.m b c.ranges.m.fits h)
