-- The turns of the greedy order, read off tables: sets of places, the smallest ready place, the places that are taken.
use Rattle.std.specs.Prelude.{ℕ, ◌≤◌, ◌<◌, ◌≡◌, ◌⊎◌, Bool, List, length, take, Option, Some, None}
use Rattle.theory.specs.Graph.{Arc, Taken, Greedy}
use Rattle.bits.specs.Table.{row_bits, bit_at}
use Rattle.dependence.specs.Marks.{Marks}
use Rattle.turns.specs.declared.Turns.{Turns}

-- the place p is in the set
abbrev pub InSet : List ℕ → ℕ → Type 0
InSet set p = bit_at set 0 p ≡ 1

-- p is not taken, and the sources of its arcs are all taken: theory's `Ready`, read off the tables
pub record ReadyIn (arc taken : List ℕ) (p : ℕ) : Type 0 where
  pub untaken : bit_at taken 0 p ≡ 0
  pub sources : (x : ℕ) → x < row_bits → bit_at arc p x ≡ 1 → InSet taken x

-- no number below n has the property
pub record NoneBelow (P : ℕ → Type 0) (n : ℕ) : Type 0 where
  pub none : (k : ℕ) → k < n → ¬ P k

abbrev pub NoneReady : List ℕ → List ℕ → ℕ → Type 0
NoneReady arc taken = NoneBelow (ReadyIn arc taken)

pub record LeastReady (arc taken : List ℕ) (n p : ℕ) : Type 0 where
  pub inside : p < n
  pub ready : ReadyIn arc taken p
  pub least : NoneReady arc taken p

abbrev pub FirstReady : List ℕ → List ℕ → ℕ → Option ℕ → Type 0
FirstReady arc taken n (Some p) = LeastReady arc taken n p
FirstReady arc taken n None = NoneReady arc taken n

-- every place below n is taken
pub record AllTaken (taken : List ℕ) (n : ℕ) : Type 0 where
  pub all : (k : ℕ) → k < n → InSet taken k

-- p is the smallest place that is not taken, or n
pub record FirstUntaken (taken : List ℕ) (n p : ℕ) : Type 0 where
  pub within : p ≤ n
  pub before : AllTaken taken p
  pub here : p < n → bit_at taken 0 p ≡ 0

-- `taken` has the places that the steps of l take
pub record TakenIn (h l taken : List ℕ) : Type 0 where
  pub sound : (p : ℕ) → p < length h → InSet taken p → Taken h l p
  pub complete : (p : ℕ) → p < length h → Taken h l p → InSet taken p

-- l is a greedy order of h as far as it goes, and `taken` its places
pub record TakenAs (conflict : ℕ → ℕ → ℕ → ℕ → Bool) (unit : ℕ → ℕ → ℕ → ℕ) (h l taken : List ℕ) : Type 0 where
  pub greedy : Greedy conflict unit h l
  pub places : TakenIn h l taken

-- the turns as far as they go, of every conflict and unit whose arcs the table marks
pub record TurnsTaken (history : List ℕ) (n : ℕ) (arc : List ℕ) (r : Turns) : Type 0 where
  pub within : r.count ≤ n
  pub long : length (take r.count r.order) ≡ r.count
  pub taken_as : (conflict : ℕ → ℕ → ℕ → ℕ → Bool) (unit : ℕ → ℕ → ℕ → ℕ) → Marks (Arc conflict unit (take n history)) arc
      → TakenAs conflict unit (take n history) (take r.count r.order) r.taken
  pub ends : (r.count ≡ n) ⊎ NoneReady arc r.taken n
