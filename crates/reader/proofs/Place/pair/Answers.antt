-- Each way out is one row of the format's table of tests: the tests before it hold, and its own fails, or all hold.
use mathlib.Core.Path.{ap, ◌∙◌}
use native.Mathlib.Omega.{arith}
use Rattle.std.proofs.Common.{Err}
use Rattle.book.proofs.Refusals.{passed_on}
use Rattle.reader.proofs.Commands.{pair_short, pair_late, pair_kind, pair_low, pair_on}
use Rattle.reader.proofs.Place.pair.Goals as goal

pub returns-in_err-a : goal.returns-in_err-a
returns-in_err-a c = pair_short _ _ _ c.in_err-a.ensures.0 _ (passed_on _ _ c.from_residual.ensures.1 ∙ ap Err c.in_err-a.ensures.1)

pub returns-then-self-gt0 : goal.returns-then-self-gt0
returns-then-self-gt0 c = search (pair_late, c.in_ok-a.ensures.there)

pub returns-then-b-ge-KINDS : goal.returns-then-b-ge-KINDS
returns-then-b-ge-KINDS c =
    let o = c.in_ok-a.ensures in
    search (pair_kind, o.there, c.wide-a.ensures.0 ∙ o.byte 0 (omega arith), c.wide-b.ensures.0 ∙ o.byte 1 (omega arith))

pub returns-then-index-self : goal.returns-then-index-self
returns-then-index-self c =
    let o = c.in_ok-a.ensures in
    search (pair_low, o.there, c.wide-a.ensures.0 ∙ o.byte 0 (omega arith), c.wide-b.ensures.0 ∙ o.byte 1 (omega arith))

pub returns : goal.returns
returns c =
    let o = c.in_ok-a.ensures in
    search (pair_on, o.there, c.wide-a.ensures.0 ∙ o.byte 0 (omega arith), c.wide-b.ensures.0 ∙ o.byte 1 (omega arith))
