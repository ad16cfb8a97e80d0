-- The judge of a graph.
use Rattle.std.specs.Prelude.{List, ℕ}
use Rattle.theory.specs.Relative.{Lawful}
use Rattle.graph.specs.Inner.Arcs.{TablesIn, done}
use Rattle.graph.specs.declared.graph.Graph.{Graph}
use Rattle.judge.specs.Judged.{JudgedAs}
use Rattle.judge.specs.Inner.Names.{CycleCounted}
use Rattle.judge.specs.declared.Judgement.{Judgement}

-- the judgement, of every conflict and unit whose tables the graph has, and where its cycle stands
pub record JudgedBy (g : Graph) (order order' cycle cycle' : List ℕ) (r : Judgement) : Type 0 where
  pub judged : (a : TablesIn g) → Lawful a.conflict → JudgedAs a.conflict a.unit (done g) order order' cycle cycle' r.verdict r.count
  pub counted : CycleCounted cycle' r.verdict r.count
