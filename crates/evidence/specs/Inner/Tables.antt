-- The checks over tables: the next step of a run, an order, a cycle.
use Rattle.std.specs.Prelude.{ℕ, ◌<◌, ◌≡◌, ◌≢◌, Bool, true, ◌||◌, List, length, get_or, Option, Some, None}
use Rattle.theory.specs.Relative.{Depends, Equivalent}
use Rattle.theory.specs.Graph.{Arc, Cycle}
use Rattle.bits.specs.Table.{bit_at}
use Rattle.theory.specs.Answers.{Answers}
use Rattle.dependence.specs.Marks.{Marks}
use Rattle.graph.specs.Inner.Arcs.{TablesIn, done}
use Rattle.graph.specs.declared.graph.Graph.{Graph}
use Rattle.names.specs.declared.ArcNames.{ArcNames}

-- p is the first place of run r that is not taken
pub record NextAt (history taken : List ℕ) (r p : ℕ) : Type 0 where
  pub inside : p < length history
  pub runs : get_or history p 0 ≡ r
  pub untaken : bit_at taken 0 p ≡ 0
  pub first : (k : ℕ) → k < p → get_or history k 0 ≡ r → bit_at taken 0 k ≡ 1

-- every place of run r is taken
pub record NoNext (history taken : List ℕ) (r : ℕ) : Type 0 where
  pub all : (k : ℕ) → k < length history → get_or history k 0 ≡ r → bit_at taken 0 k ≡ 1

abbrev pub NextStep : List ℕ → List ℕ → ℕ → Option ℕ → Type 0
NextStep history taken r (Some p) = NextAt history taken r p
NextStep history taken r None = NoNext history taken r

-- the answer for every conflict whose dependences these are
pub record EquivalentBy (history dep l : List ℕ) (answer : Bool) : Type 0 where
  pub answers : (conflict : ℕ → ℕ → ℕ → ℕ → Bool) → Marks (Depends conflict history) dep → Answers (Equivalent conflict history l) answer

-- any of the names holds
abbrev pub any_of : ArcNames → Bool
any_of w = w.i || (w.d || (w.f || w.b))

-- x may come after `before` on a walk along the arcs that has met the places `seen`
pub record Follows (conflict : ℕ → ℕ → ℕ → ℕ → Bool) (unit : ℕ → ℕ → ℕ → ℕ) (h seen : List ℕ) (before x : ℕ) : Type 0 where
  pub fresh : bit_at seen 0 x ≢ 1
  pub arc : Arc conflict unit h before x

-- the answer for every conflict and unit whose tables the graph has; yes only for a place of the history
pub record FollowsBy (g : Graph) (seen : List ℕ) (before x : ℕ) (answer : Bool) : Type 0 where
  pub answers : (a : TablesIn g) → Answers (Follows a.conflict a.unit (done g) seen before x) answer
  pub inside : answer ≡ true → x < g.n

pub record CycleBy (g : Graph) (c : List ℕ) (answer : Bool) : Type 0 where
  pub answers : (a : TablesIn g) → Answers (Cycle a.conflict a.unit (done g) c) answer
