-- The names of the arcs of a cycle, as bytes.
use Rattle.std.specs.Prelude.{ℕ, ◌+◌, ◌≤◌, ◌<◌, ◌≡◌, Bool, cond, List, ◌++◌, map, length, get_or, take, drop, ltb}
use Rattle.book.specs.Format.{step_limit}
use Rattle.names.specs.Names.{names_value, names_of, after_each, cycle_names}
use Rattle.graph.specs.Inner.Arcs.{TablesIn, done}
use Rattle.graph.specs.declared.graph.Graph.{Graph}
use Rattle.judge.specs.declared.Verdict.{Verdict}
use Rattle.judge.specs.declared.Verdict.TheVariants.{Passed, Tangled}

-- k is the index after i on a cycle of len places
pub record After (i len k : ℕ) : Type 0 where
  pub is : k ≡ cond (ltb (i + 1) len) (i + 1) 0
  pub inside : k < len

-- v is the value of the names of arc i of the cycle c, of any conflict and units whose tables the graph has
pub record ValueBy (g : Graph) (c : List ℕ) (i v : ℕ) : Type 0 where
  pub by : (a : TablesIn g) → v ≡ names_value (names_of a.conflict a.unit (done g) (get_or c i 0) (get_or (after_each c) i 0))

-- values' begins with the values of the names of the arcs of c, one byte an arc, and is behind them as `values`
pub record ValuesBy (g : Graph) (c values values' : List ℕ) : Type 0 where
  pub by : (a : TablesIn g) → values' ≡ map names_value (cycle_names a.conflict a.unit (done g) c) ++ drop (length c) values

-- the same of the cycle that a verdict counts in its buffer; where there is no cycle, nothing changes
abbrev pub EvidenceNamed : (ℕ → ℕ → ℕ → ℕ → Bool) → (ℕ → ℕ → ℕ → ℕ) → List ℕ → List ℕ → List ℕ → List ℕ → Verdict → ℕ → Type 0
EvidenceNamed conflict unit h cycle values values' Passed count = values' ≡ values
EvidenceNamed conflict unit h cycle values values' Tangled count = values' ≡ map names_value (cycle_names conflict unit h (take count cycle)) ++ drop count values

-- of any conflict and units whose tables the graph has
pub record EvidenceNamedBy (g : Graph) (cycle values values' : List ℕ) (verdict : Verdict) (count : ℕ) : Type 0 where
  pub by : (a : TablesIn g) → EvidenceNamed a.conflict a.unit (done g) cycle values values' verdict count

-- so many bytes are in the buffer, and no more than a history has places
pub record CountedIn (cycle : List ℕ) (count : ℕ) : Type 0 where
  pub inside : count ≤ length cycle
  pub few : count ≤ step_limit

-- a cycle that the verdict counts is in its buffer
abbrev pub CycleCounted : List ℕ → Verdict → ℕ → Type 0
CycleCounted cycle Passed count = Unit {0}
CycleCounted cycle Tangled count = CountedIn cycle count
