-- The F arc from the last source is enough: any other F arc is a D arc, or the same.
use Rattle.graph.proofs.ArcMarks.{last_small, across_all}
use borrow.Author.Rules.{rules}
use Rattle.graph.proofs.RunPlaces.arcs_across.Goals as goal

pub last-e-requires : goal.last-e-requires
last-e-requires c = (search last_small, search rules)

pub returns : goal.returns
returns c =
    let j = c in
    let m = j.before in
    let f = m.before in
    let e = f.before in
    let p = e.requires in
    across_all _ _ _ _ c.args.self.now.marked p.0 _ _ _ _ _ _ _ _ p.3 p.1 p.2 e.last-e.ensures f.first-f.ensures m.mark.ensures j.join_within.ensures c.join_within-2.ensures
