-- Before each turn the rows of the places from p on are right. The step after p in its run has its row already.
use Prim.Native.Nat.{◌≤◌}
use lib.ListN.{take}
use Rattle.theory.specs.Graph.{LastOf}
use Rattle.graph.specs.Inner.Tables.{EachBy}
use Rattle.graph.specs.Units.{UnchangedFrom}
use Rattle.graph.proofs.Numbered.unit_lasts.Given as goal

abbrev pub invariant-loop-p : goal.invariant-loop-p
invariant-loop-p l = (l.p ≤ l.b.done) × EachBy LastOf l.b.cuts (take l.b.done l.b.history) l.p l.b.done l.t × UnchangedFrom l.b.done l.initial.t l.t
