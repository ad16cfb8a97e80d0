-- Each command's tests stand in the documents' order: read off its table.
use native.Mathlib.Omega.{arith}
use Rattle.book.specs.Format.{pair, run, step, cut, done, operand_tests}
use Rattle.book.specs.TestOrder.{TestedInOrder}

pub tested_in_order : TestedInOrder
unfolding operand_tests
tested_in_order ρ s at t (pair p) = (omega arith, (omega arith, (omega arith, omega arith)))
tested_in_order ρ s at t (run r) = (omega arith, (omega arith, omega arith))
tested_in_order ρ s at t (step x) = (omega arith, (omega arith, (omega arith, (omega arith, omega arith))))
tested_in_order ρ s at t (cut c) = (omega arith, (omega arith, (omega arith, (omega arith, (omega arith, (omega arith, omega arith))))))
tested_in_order ρ s at t (done r) = (omega arith, (omega arith, omega arith))
