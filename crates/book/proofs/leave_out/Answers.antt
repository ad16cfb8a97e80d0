use Rattle.book.proofs.LeaveOut.{none_left_out, stays_place, one_left_out, one_stays, all_left_out}
use borrow.Author.Rules.{rules}
use Rattle.book.proofs.leave_out.Goals.{then-flags-r-eq0, else-flags-r-eq0}
use Rattle.book.proofs.leave_out.Goals as goal

pub loop-run-init : goal.loop-run-init
loop-run-init c = search none_left_out

pub bounds-history-done : goal.bounds-history-done
bounds-history-done c = search (rules, stays_place)

pub loop-run-preserved : goal.loop-run-preserved
loop-run-preserved c = elim c.if-flags-r-eq0.branch [ then-flags-r-eq0 w ↦ search one_stays | else-flags-r-eq0 w ↦ search one_left_out ]

pub returns : goal.returns
returns c = search all_left_out
