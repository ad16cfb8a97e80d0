-- A number below ten is its one digit; of any other, the digits of its tenth come first, and the last digit behind them.
use mathlib.Core.Path.{sym}
use mathlib.Core.List.{[], ◌∷◌}
use Prim.Native.Nat.{◌%◌}
use native.Mathlib.Omega.{arith}
use Rattle.report.specs.Letters.{digit}
use Rattle.buffer.proofs.PutLaws.{behind, room_behind, put_is}
use Rattle.report.proofs.Decimals.{decimal_small, decimal_large, decimal_longer, decimal_some}
use Rattle.report.proofs.+put_decimal.Goals as goal

pub put_byte-requires : goal.put_byte-requires
put_byte-requires t c = omega (arith, decimal_some c.args.x, c.requires)

pub returns-then-x-lt10 : goal.returns-then-x-lt10
returns-then-x-lt10 t c = put_is c.put_byte.ensures (sym (decimal_small c.args.x c.if-x-lt10.true))

pub put_decimal-k-requires : goal.put_decimal-k-requires
put_decimal-k-requires t c = (omega arith, omega (arith, decimal_longer c.args.x c.if-x-lt10.false, c.requires))

pub put_byte-m-requires : goal.put_byte-m-requires
put_byte-m-requires t c = room_behind (digit (c.args.x % 10) ∷ []) c.put_decimal-k.ensures (omega (arith, decimal_longer c.args.x c.if-x-lt10.false, c.requires))

pub returns : goal.returns
returns t c = put_is (behind c.put_decimal-k.ensures c.put_byte-m.ensures) (sym (decimal_large c.args.x c.if-x-lt10.false))
