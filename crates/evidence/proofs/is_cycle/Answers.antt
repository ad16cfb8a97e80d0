-- The graph is that of the book's contents, so the cycle that `cycle_by` tells is one of its graph.
use Rattle.evidence.proofs.BookLaws.{graph_cycle}
use Rattle.evidence.proofs.is_cycle.Goals as goal

pub returns : goal.returns
returns c = search graph_cycle
