-- The head and the number, then the line end.
use Prim.Native.Nat.{◌+◌}
use mathlib.Core.Path.{refl}
use mathlib.Core.List.{[], ◌∷◌}
use native.Mathlib.Omega.{arith}
use Rattle.buffer.proofs.PutLaws.{room_behind}
use Rattle.report.specs.Letters.{line_end}
use Rattle.report.specs.Inner.Widths.{number_digits}
use Rattle.report.proofs.Decimals.{decimal_few}
use Rattle.report.proofs.WithinLaws.{exactly, within_limit, behind_within, within_is}
use Rattle.report.proofs.put_done.Goals as goal

pub put_number-n-requires : goal.put_number-n-requires
put_number-n-requires c = omega (arith, decimal_few c.args.done c.requires.0, c.requires.1)

pub put_byte-m-requires : goal.put_byte-m-requires
put_byte-m-requires c = room_behind (line_end ∷ []) c.put_number-n.ensures (omega (arith, decimal_few c.args.done c.requires.0, c.requires.1))

pub returns : goal.returns
returns c =
    within_is
    (behind_within (within_limit (5 + number_digits) c.put_number-n.ensures (omega (arith, decimal_few c.args.done c.requires.0))) (exactly c.put_byte-m.ensures))
    refl
    (omega arith)
