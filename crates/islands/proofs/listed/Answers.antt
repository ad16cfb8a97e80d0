use Rattle.islands.proofs.Listing.{listed_none, listed_room, listed_fits, listed_own, listed_other}
use borrow.Author.Rules.{rules}
use Rattle.islands.proofs.listed.Goals.{then-wide-r, else-wide-r}
use Rattle.islands.proofs.listed.Goals as goal

pub loop-r-init : goal.loop-r-init
loop-r-init c = listed_none _

pub bounds-list-count : goal.bounds-list-count
bounds-list-count c = search (rules, listed_room)

pub overflow_add-count : goal.overflow_add-count
overflow_add-count c = search listed_fits

pub loop-r-preserved : goal.loop-r-preserved
loop-r-preserved c = elim c.if-wide-r.branch [ then-wide-r w ↦ search listed_own | else-wide-r w ↦ search listed_other ]
