use Rattle.book.proofs.WithHistory.{none_filled, filled_run, filled_place, filled_more, all_filled}
use mathlib.Core.Path.{refl}
use Rattle.book.proofs.with_history.Goals as goal

pub loop-n-init : goal.loop-n-init
loop-n-init c = search none_filled

pub bounds-history-n : goal.bounds-history-n
bounds-history-n c = filled_place _ _ _ _ _ _ c.requires.0 c.requires.1 c.loop-n.invariant c.loop-n-test.true refl

pub bounds-counts-wide : goal.bounds-counts-wide
bounds-counts-wide c = search filled_run

pub bounds-counts-wide-in-loop-n : goal.bounds-counts-wide-in-loop-n
bounds-counts-wide-in-loop-n c = search filled_run

pub loop-n-preserved : goal.loop-n-preserved
loop-n-preserved c = search filled_more

pub returns : goal.returns
returns c = search all_filled
