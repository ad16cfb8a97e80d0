-- The names of arcs, as the tables have them.
use Rattle.std.specs.Prelude.{ℕ, ◌+◌, ◌*◌, ◌≡◌, false, get_or}
use Rattle.bits.specs.Table.{bit_at}
use Rattle.book.specs.Format.{run_limit}
use Rattle.graph.specs.declared.graph.Graph.{Graph}
use Rattle.graph.specs.Inner.Arcs.{TablesIn, done}
use Rattle.names.specs.Names.{names_of}
use Rattle.names.specs.declared.ArcNames.{ArcNames}

-- an F arc from x to a place y of another run, s, as the tables have it: x is the last of its unit, and y depends on the first
pub record LastLeads (g : Graph) (s x y : ℕ) : Type 0 where
  pub ends : get_or g.lasts (x * run_limit + s) 0 ≡ x
  pub depends : bit_at g.dep y (get_or g.firsts (x * run_limit + s) 0) ≡ 1

-- a B arc from x, of another run, r, to y: y is the first of its unit, and the last depends on x
pub record FirstLed (g : Graph) (r x y : ℕ) : Type 0 where
  pub begins : get_or g.firsts (y * run_limit + r) 0 ≡ y
  pub depends : bit_at g.dep (get_or g.lasts (y * run_limit + r) 0) x ≡ 1

-- no name holds
abbrev pub no_names : ArcNames
no_names = record { i = false; d = false; f = false; b = false }

-- w has the names of the arcs from x to y, of any conflict and units whose tables the graph has
pub record NamesBy (g : Graph) (x y : ℕ) (w : ArcNames) : Type 0 where
  pub by : (a : TablesIn g) → w ≡ names_of a.conflict a.unit (done g) x y
