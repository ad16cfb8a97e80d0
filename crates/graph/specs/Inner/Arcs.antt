-- What the functions that make the arc rows promise one another, and what a graph is made of.
use Rattle.std.specs.Prelude.{ℕ, ◌+◌, ◌*◌, ◌<◌, ◌≡◌, ◌⊎◌, Bool, List, get_or, take}
use Rattle.bits.specs.Table.{row_bits, rows, bit_at}
use Rattle.theory.specs.History.{run}
use Rattle.theory.specs.Graph.{FirstOf, LastOf, ArcI, ArcD, Arc}
use Rattle.book.specs.Format.{run_limit}
use Rattle.dependence.specs.Marks.{Marks, Columns}
use Rattle.dependence.specs.Inner.Tables.{InRun}
use Rattle.graph.specs.Inner.Tables.{TablesBy, TablesOf}
use Rattle.graph.specs.declared.graph.Graph.{Graph}

-- the history of a graph
abbrev pub done : Graph → List ℕ
done g = take g.n g.history

-- a conflict and units whose tables the graph has
abbrev pub TablesIn : Graph → Type 0
TablesIn g = TablesOf (done g) g.dep g.firsts g.lasts

-- the graph is that of h, with this conflict and these units
pub record GraphOf (conflict : ℕ → ℕ → ℕ → ℕ → Bool) (unit : ℕ → ℕ → ℕ → ℕ) (h : List ℕ) (g : Graph) : Type 0 where
  pub history_is : done g ≡ h
  pub tables_are : TablesBy conflict unit (done g) g.dep g.firsts g.lasts

-- u is t with the bits that H tells
pub record Gained (H : ℕ → ℕ → Type 0) (t u : List ℕ) : Type 0 where
  pub sound : (x y : ℕ) → x < row_bits → y < rows → bit_at u y x ≡ 1 → (bit_at t y x ≡ 1) ⊎ H x y
  pub keeps : (x y : ℕ) → x < row_bits → y < rows → bit_at t y x ≡ 1 → bit_at u y x ≡ 1
  pub gains : (x y : ℕ) → x < row_bits → y < rows → H x y → bit_at u y x ≡ 1

-- the arcs from x to y that come of what q depends on in run r
pub data ArcOf (conflict : ℕ → ℕ → ℕ → ℕ → Bool) (unit : ℕ → ℕ → ℕ → ℕ) (h : List ℕ) (r q x y : ℕ) : Type 0 where
  by_I : run h x ≡ r → ArcI h x q → y ≡ q → ArcOf conflict unit h r q x y
  by_D : run h x ≡ r → ArcD conflict h x q → y ≡ q → ArcOf conflict unit h r q x y
  by_F : (p : ℕ) → run h p ≡ r → ArcD conflict h p q → LastOf unit h (run h q) p x → y ≡ q → ArcOf conflict unit h r q x y
  by_B : run h x ≡ r → ArcD conflict h x q → FirstOf unit h r q y → ArcOf conflict unit h r q x y

-- P of some number below m
pub record Below (P : ℕ → ℕ → ℕ → Type 0) (m x y : ℕ) : Type 0 where
  pub index : ℕ
  pub below : index < m
  pub holds : P index x y

-- the arcs that come of what the places below m depend on in run r
abbrev pub ArcOfPlaces : (ℕ → ℕ → ℕ → ℕ → Bool) → (ℕ → ℕ → ℕ → ℕ) → List ℕ → ℕ → ℕ → ℕ → ℕ → Type 0
ArcOfPlaces conflict unit h r m = Below (ArcOf conflict unit h r) m

-- the arcs that come of what the places below n depend on in the runs below m
abbrev pub ArcOfRuns : (ℕ → ℕ → ℕ → ℕ → Bool) → (ℕ → ℕ → ℕ → ℕ) → List ℕ → ℕ → ℕ → ℕ → ℕ → Type 0
ArcOfRuns conflict unit h n m = Below (λ r. Below (ArcOf conflict unit h r) n) m

-- u is t with the bits that H tells of i and j, for any conflict and units whose tables the graph has
pub record GainedBy (H : (ℕ → ℕ → ℕ → ℕ → Bool) → (ℕ → ℕ → ℕ → ℕ) → List ℕ → ℕ → ℕ → ℕ → ℕ → Type 0)
    (g : Graph) (i j : ℕ) (t u : List ℕ) : Type 0 where
  pub by : (a : TablesIn g) → Gained (H a.conflict a.unit (done g) i j) t u

-- the arc rows of any conflict and units whose tables the graph has
pub record ArcRows (g : Graph) (arc : List ℕ) : Type 0 where
  pub marks : (a : TablesIn g) → Marks (Arc a.conflict a.unit (done g)) arc

-- the mask has the places of run r
pub record RunMask (g : Graph) (mask : List ℕ) (r : ℕ) : Type 0 where
  pub mask_is : Columns (λ p. InRun (done g) g.n p r) mask
  pub small : r < run_limit

-- the rows of the places below n hold places
pub record Rowed (n : ℕ) (t : List ℕ) : Type 0 where
  pub small : (p o : ℕ) → p < n → o < run_limit → get_or t (p * run_limit + o) 0 < rows
