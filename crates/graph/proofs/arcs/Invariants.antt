-- Each turn gains the arcs that come of one more run; of all runs they are all.
use Rattle.graph.specs.Inner.Arcs.{ArcOfRuns, GainedBy}
use Rattle.graph.proofs.arcs.Given as goal

abbrev pub invariant-loop-r : goal.invariant-loop-r
invariant-loop-r l = GainedBy ArcOfRuns l.g l.g.n l.r l.initial.rows l.rows
