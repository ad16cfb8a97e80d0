-- Before each turn the rows of the places below p are right. The step before p in its run has its row already.
use lib.ListN.{take}
use Rattle.theory.specs.Graph.{FirstOf}
use Rattle.graph.specs.Inner.Tables.{EachBy}
use Rattle.graph.specs.Units.{UnchangedFrom}
use Rattle.graph.proofs.Numbered.unit_firsts.Given as goal

abbrev pub invariant-loop-p : goal.invariant-loop-p
invariant-loop-p l = EachBy FirstOf l.b.cuts (take l.b.done l.b.history) 0 l.p l.t × UnchangedFrom l.b.done l.initial.t l.t
