-- Each turn gains the arcs that come of one more place.
use Rattle.graph.specs.Inner.Arcs.{ArcOfPlaces, GainedBy}
use Rattle.graph.proofs.RunPlaces.arcs.Given as goal

abbrev pub invariant-loop-q : goal.invariant-loop-q
invariant-loop-q l = GainedBy ArcOfPlaces l.self.graph.now l.self.run l.q l.initial.arc l.arc
