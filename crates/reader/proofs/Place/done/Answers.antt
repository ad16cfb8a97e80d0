-- Each way out is one row of the format's table of tests: the tests before it hold, and its own fails, or all hold.
use mathlib.Core.Path.{ap, ◌∙◌}
use native.Mathlib.Omega.{arith}
use Rattle.std.proofs.Common.{Err}
use Rattle.book.proofs.Refusals.{passed_on}
use Rattle.reader.proofs.Commands.{done_short, done_run, done_none, done_on}
use Rattle.reader.proofs.Place.done.Goals as goal

pub returns-in_err-run : goal.returns-in_err-run
returns-in_err-run c = done_short _ _ _ _ _ c.in_err-run.ensures.0 _ (passed_on _ _ c.from_residual.ensures.1 ∙ ap Err c.in_err-run.ensures.1)

pub returns-then-r-self : goal.returns-then-r-self
returns-then-r-self c = let o = c.in_ok-run.ensures in search (done_run, o.there, c.wide-r.ensures.0 ∙ o.byte 0 (omega arith))

pub returns-then-self-r : goal.returns-then-self-r
returns-then-self-r c = let o = c.in_ok-run.ensures in search (done_none, o.there, c.wide-r.ensures.0 ∙ o.byte 0 (omega arith))

pub returns : goal.returns
returns c =
    let o = c.in_ok-run.ensures in
    rw (o.byte 0 (omega arith)) (search (done_on, o.there, c.wide-r.ensures.0 ∙ o.byte 0 (omega arith)))
