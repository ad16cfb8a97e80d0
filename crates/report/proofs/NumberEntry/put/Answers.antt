-- A byte has three digits at most.
use Prim.Native.Nat.{ℕ}
use mathlib.Core.Path.{ap}
use mathlib.Core.List.{◌∷◌}
use native.Mathlib.Omega.{arith}
use Rattle.buffer.proofs.PutLaws.{put_is}
use Rattle.report.specs.Letters.{blank}
use Rattle.report.specs.Text.{decimal}
use Rattle.report.specs.Inner.Widths.{number_width}
use Rattle.report.proofs.Decimals.{decimal_few}
use Rattle.report.proofs.WithinLaws.{within_limit}
use Rattle.report.proofs.NumberEntry.put.Goals as goal

pub put_number-requires : goal.put_number-requires
put_number-requires c = omega (arith, decimal_few c.wide.result (omega (arith, c.wide.ensures.1)), c.requires)

pub returns : goal.returns
returns c =
    within_limit
    number_width
    (put_is c.put_number.ensures (ap (λ (k : ℕ). blank ∷ decimal k) c.wide.ensures.0))
    (omega (arith, decimal_few c.args.x (omega (arith, c.wide.ensures))))
