-- The graph is that of the book's own conflict and unit.
use Rattle.theory.proofs.DeckLaws.{lawful}
use Rattle.judge.proofs.Verdicts.{graph_judged, graph_named}
use Rattle.judge.proofs.judge_book_lent.Goals as goal

pub returns : goal.returns
returns c = record { judged_as = graph_judged _ _ _ _ c.tables-g.ensures (search lawful) _ _ _ _ _ c.judge_arcs-j.ensures; evidence_named = search graph_named }
