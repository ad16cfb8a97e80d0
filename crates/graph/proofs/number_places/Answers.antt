use Rattle.graph.proofs.Numbering.{number_fits, number_index, number_more}
use borrow.Author.Rules.{rules}
use Rattle.graph.proofs.number_places.Goals as goal

pub bounds-places-r : goal.bounds-places-r
bounds-places-r c = search number_index

pub overflow_add-counts : goal.overflow_add-counts
overflow_add-counts c = search number_fits

pub loop-p-preserved : goal.loop-p-preserved
loop-p-preserved c = (search rules, search number_more)
