-- A passed history has its order and no arcs; a tangled one's lines are `put_tangled`'s.
use Prim.Native.Nat.{◌≤◌}
use native.Mathlib.Omega.{arith}
use lib.ListN.{length}
use Rattle.book.specs.Format.{step_limit}
use Rattle.report.proofs.WithinLaws.{within_is}
use Rattle.report.proofs.TextLaws.{passed_text}
use Rattle.report.proofs.put_verdict.Goals as goal

pub returns-in-Order : goal.returns-in-Order
returns-in-Order c =
    let short : length c.in-Order.runs.now ≤ step_limit = rw c.in-Order.is at c.requires.0 in
    rw c.in-Order.is (within_is c.put_list.ensures (passed_text _) (omega arith))
