-- The graph is that of the book's contents, so the names read off it are those of its graph.
use Rattle.evidence.proofs.BookLaws.{graph_names}
use Rattle.evidence.proofs.names_of.Goals as goal

pub returns : goal.returns
returns c = search graph_names
