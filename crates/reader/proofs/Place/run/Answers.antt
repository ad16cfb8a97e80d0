-- Each way out is one row of the format's table of tests: the tests before it hold, and its own fails, or all hold.
use mathlib.Core.Path.{ap, ◌∙◌}
use native.Mathlib.Omega.{arith}
use Rattle.std.proofs.Common.{Err}
use Rattle.book.proofs.Refusals.{passed_on}
use Rattle.reader.proofs.Commands.{run_short, run_late, run_wrong, run_many, run_on}
use Rattle.reader.proofs.Place.run.Goals as goal

pub returns-in_err-number : goal.returns-in_err-number
returns-in_err-number c = run_short _ _ _ c.in_err-number.ensures.0 _ (passed_on _ _ c.from_residual.ensures.1 ∙ ap Err c.in_err-number.ensures.1)

pub returns-then-self-gt1 : goal.returns-then-self-gt1
returns-then-self-gt1 c = search (run_late, c.in_ok-number.ensures.there)

pub returns-then-r-self : goal.returns-then-r-self
returns-then-r-self c = let o = c.in_ok-number.ensures in search (run_wrong, o.there, c.wide-r.ensures.0 ∙ o.byte 0 (omega arith))

pub returns-then-self-ge-RUNS : goal.returns-then-self-ge-RUNS
returns-then-self-ge-RUNS c = let o = c.in_ok-number.ensures in search (run_many, o.there, c.wide-r.ensures.0 ∙ o.byte 0 (omega arith))

pub returns : goal.returns
returns c = let o = c.in_ok-number.ensures in search (run_on, o.there, c.wide-r.ensures.0 ∙ o.byte 0 (omega arith))
