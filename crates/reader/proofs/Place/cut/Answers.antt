-- Each way out is one row of the format's table of tests: the tests before it hold, and its own fails, or all hold.
use mathlib.Core.Path.{ap, ◌∙◌}
use native.Mathlib.Omega.{arith}
use Rattle.std.proofs.Common.{Err}
use Rattle.book.proofs.Refusals.{passed_on}
use Rattle.reader.proofs.Commands.{cut_short, cut_late, cut_run, cut_seen, cut_same, cut_number, cut_low, cut_on}
use Rattle.reader.proofs.Place.cut.Goals as goal
use Rattle.reader.proofs.Place.cut.Goals.{then-r-self-via-then-r-self, then-r-self-via-else-r-self+then-o-self, then-r-self-via-else-r-self+else-o-self+then-r-o}

pub returns-in_err-r : goal.returns-in_err-r
returns-in_err-r c = cut_short _ _ _ _ c.in_err-r.ensures.0 _ (passed_on _ _ c.from_residual.ensures.1 ∙ ap Err c.in_err-r.ensures.1)

pub returns-then-self-gt2 : goal.returns-then-self-gt2
returns-then-self-gt2 c = search (cut_late, c.in_ok-r.ensures.there)

pub returns-then-r-self : goal.returns-then-r-self
returns-then-r-self c = elim c.then-r-self.branch [
  | then-r-self-via-then-r-self w ↦ let o = c.in_ok-r.ensures in search (cut_run, o.there, c.wide-r.ensures.0 ∙ o.byte 0 (omega arith), c.wide-j.ensures.0 ∙ o.byte 1 (omega arith), c.wide-o.ensures.0 ∙ o.byte 2 (omega arith))
  | then-r-self-via-else-r-self+then-o-self w ↦ let o = c.in_ok-r.ensures in search (cut_seen, o.there, c.wide-r.ensures.0 ∙ o.byte 0 (omega arith), c.wide-j.ensures.0 ∙ o.byte 1 (omega arith), c.wide-o.ensures.0 ∙ o.byte 2 (omega arith))
  | then-r-self-via-else-r-self+else-o-self+then-r-o w ↦ let o = c.in_ok-r.ensures in search (cut_same, o.there, c.wide-r.ensures.0 ∙ o.byte 0 (omega arith), c.wide-j.ensures.0 ∙ o.byte 1 (omega arith), c.wide-o.ensures.0 ∙ o.byte 2 (omega arith))
]

pub returns-then-j-eq0 : goal.returns-then-j-eq0
returns-then-j-eq0 c = let o = c.in_ok-r.ensures in search (cut_number, o.there, c.wide-r.ensures.0 ∙ o.byte 0 (omega arith), c.wide-j.ensures.0 ∙ o.byte 1 (omega arith), c.wide-o.ensures.0 ∙ o.byte 2 (omega arith))

pub returns-then-index-self : goal.returns-then-index-self
returns-then-index-self c = let o = c.in_ok-r.ensures in search (cut_low, o.there, c.wide-r.ensures.0 ∙ o.byte 0 (omega arith), c.wide-j.ensures.0 ∙ o.byte 1 (omega arith), c.wide-o.ensures.0 ∙ o.byte 2 (omega arith))

pub returns : goal.returns
returns c = let o = c.in_ok-r.ensures in search (cut_on, o.there, c.wide-r.ensures.0 ∙ o.byte 0 (omega arith), c.wide-j.ensures.0 ∙ o.byte 1 (omega arith), c.wide-o.ensures.0 ∙ o.byte 2 (omega arith))
