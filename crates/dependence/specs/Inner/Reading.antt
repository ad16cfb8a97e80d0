-- What the functions that read a step promise one another.
use Rattle.std.specs.Prelude.{ℕ, ◌+◌, ◌-◌, ◌*◌, ◌/◌, ◌%◌, ◌<◌, ◌≡◌, ◌⊎◌, Bool, List, [], ◌∷◌, ◌++◌, length, T}
use Rattle.bits.specs.Table.{row_bits, rows, bit_at, Alone}
use Rattle.theory.specs.History.{count, run}
use Rattle.theory.specs.Deck.{Pair, Touch, Step, single, transfer, listed, touches_conflict, steps_conflict, step_of, conflict}
use Rattle.theory.specs.Transfers.{touch_of}
use Rattle.theory.specs.Relative.{DirectlyDepends, Depends}
use Rattle.book.specs.Format.{kind_limit}
use Rattle.book.specs.Book.{pairs_of}
use Rattle.dependence.specs.Marks.{Marks, Columns}
use Rattle.dependence.specs.Catalogue.{base, homes, part, home_part, parts, part_rows, done_step, Which, first_touches, second_touches, HasTouch, touch_in, run_in, Catalogued}
use Rattle.dependence.specs.Dependence.{StepsRead}
use Rattle.dependence.specs.Inner.Tables.{StepsOf, RunLinked}

-- the row of part k of a touch x of run r
pub record PartRow (r : ℕ) (x : Touch) (k row : ℕ) : Type 0 where
  pub is : row ≡ k * base + part r x k
  pub low : part r x k < base
  pub in_table : row < part_rows

-- n says whether x homes
pub record HomesAs (x : Touch) (n : ℕ) : Type 0 where
  pub is : n ≡ homes x
  pub low : n < 2

-- the row of the places that home if x does not, and of those that do not if x does
pub record OtherHomeRow (x : Touch) (row : ℕ) : Type 0 where
  pub is : row ≡ home_part * base + (1 - homes x)
  pub in_table : row < part_rows

-- u is t with column q in the rows of the first m parts of a touch x of run r
pub record Entered (t u : List ℕ) (q r : ℕ) (x : Touch) (m : ℕ) : Type 0 where
  pub here : (k : ℕ) → k < m → bit_at u (k * base + part r x k) q ≡ 1
  pub other : (y p : ℕ) → p < row_bits → (p ≡ q → y / base < m → part r x (y / base) ≡ y % base → ⊥) → bit_at u y p ≡ bit_at t y p

-- the same of the place whose column alone a row has
pub record PartsEntered (t u column : List ℕ) (r : ℕ) (x : Touch) (m : ℕ) : Type 0 where
  pub place : (q : ℕ) → q < row_bits → Alone q column → Entered t u q r x m

-- u is t with column q in the rows of the kinds below m that are paired with `kind`
pub record KindsEntered (pairs : List ℕ) (t u : List ℕ) (q kind m : ℕ) : Type 0 where
  pub here : (v : ℕ) → v < m → T (listed (pairs_of pairs) kind v) → bit_at u (part_rows + v) q ≡ 1
  pub other : (y p : ℕ) → p < row_bits → (p ≡ q → (v : ℕ) → v < m → y ≡ part_rows + v → T (listed (pairs_of pairs) kind v) → ⊥) → bit_at u y p ≡ bit_at t y p

pub record KindsJoined (pairs t u column : List ℕ) (kind m : ℕ) : Type 0 where
  pub place : (q : ℕ) → q < row_bits → Alone q column → KindsEntered pairs t u q kind m

-- the kind v too
pub record KindEntered (pairs : List ℕ) (t u : List ℕ) (q kind v : ℕ) : Type 0 where
  pub more : (s : List ℕ) → KindsEntered pairs s t q kind v → KindsEntered pairs s u q kind (v + 1)

pub record KindJoined (pairs t u column : List ℕ) (kind v : ℕ) : Type 0 where
  pub place : (q : ℕ) → q < row_bits → Alone q column → KindEntered pairs t u q kind v

-- a touch x of run r is entered: its parts, and then the kinds
pub record TouchEntered (pairs : List ℕ) (t u : List ℕ) (q r : ℕ) (x : Touch) : Type 0 where
  pub between : List ℕ
  pub by_parts : Entered t between q r x parts
  pub by_kinds : KindsEntered pairs between u q x.kind kind_limit

pub record TouchJoined (pairs t u column : List ℕ) (r : ℕ) (x : Touch) : Type 0 where
  pub place : (q : ℕ) → q < row_bits → Alone q column → TouchEntered pairs t u q r x

-- of a step x, entered as place q: the second touch of a transfer, and nothing of a single step
abbrev pub SecondEntered : List ℕ → List ℕ → List ℕ → ℕ → Step → Type 0
SecondEntered pairs t u q (single x) = u ≡ t
SecondEntered pairs t u q (transfer x y) = TouchEntered pairs t u q 0 y

-- both touches of a step x of run r
pub record StepEntered (pairs catalogue catalogue' seconds seconds' : List ℕ) (q r : ℕ) (x : Step) : Type 0 where
  pub first : TouchEntered pairs catalogue catalogue' q r (touch_of x)
  pub second : SecondEntered pairs seconds seconds' q x

-- place p of h has, in a catalogue, a run and a touch of which P holds
pub record Has (w : Which) (P : ℕ → Touch → Type 0) (runs : List (List Step)) (h : List ℕ) (p : ℕ) : Type 0 where
  pub inside : p < length h
  pub has : HasTouch w (done_step runs h p)
  pub holds : P (run_in w (run h p)) (touch_in w (done_step runs h p))

-- the columns of m are those places, of any history whose catalogue this is, for any pairs
pub record Finds (P : List Pair → ℕ → Touch → Type 0) (catalogue m : List ℕ) : Type 0 where
  pub columns : (pairs : List Pair) (w : Which) (runs : List (List Step)) (h : List ℕ) → Catalogued pairs w runs h catalogue → Columns (Has w (P pairs) runs h) m

-- a touch y that conflicts with a touch x; the run s plays no part
abbrev pub TouchConflicts : Touch → List Pair → ℕ → Touch → Type 0
TouchConflicts x pairs s y = T (touches_conflict pairs y x)

-- ---- steps by both catalogues

-- place p of h has a run and a step of which P holds
pub record StepHas (P : ℕ → Step → Type 0) (runs : List (List Step)) (h : List ℕ) (p : ℕ) : Type 0 where
  pub inside : p < length h
  pub holds : P (run h p) (done_step runs h p)

-- the columns of m are those places, of any history whose catalogues these are, for any pairs
pub record StepFinds (P : List Pair → ℕ → Step → Type 0) (catalogue seconds m : List ℕ) : Type 0 where
  pub columns : (pairs : List Pair) (runs : List (List Step)) (h : List ℕ) → Catalogued pairs first_touches runs h catalogue → Catalogued pairs second_touches runs h seconds
      → Columns (StepHas (P pairs) runs h) m

-- a step y that conflicts with a step x if they are of different runs; the run s of y plays no part
abbrev pub ConflictsWith : Step → List Pair → ℕ → Step → Type 0
ConflictsWith x pairs s y = T (steps_conflict pairs y x)

-- a step y of run s on which a later step x of run r directly depends
abbrev pub Linked : ℕ → Step → List Pair → ℕ → Step → Type 0
Linked r x pairs s y = (s ≡ r) ⊎ ConflictsWith x pairs s y

-- ---- the row of a place

-- y is one of the first q steps of h, and depends on x
pub record DependsSoFar (conflict : ℕ → ℕ → ℕ → ℕ → Bool) (h : List ℕ) (q x y : ℕ) : Type 0 where
  pub so_far : y < q
  pub depends : Depends conflict h x y

-- m has the places on which place q depends, for any history in which it directly depends on the linked places and whose earlier rows these are
pub record RowFrom (dep linked m : List ℕ) : Type 0 where
  pub row : (conflict : ℕ → ℕ → ℕ → ℕ → Bool) (h : List ℕ) (q : ℕ) → q < rows → Columns (λ p. DirectlyDepends conflict h p q) linked → Marks (DependsSoFar conflict h q) dep
      → Columns (λ p. Depends conflict h p q) m

-- ---- the rows of a history

-- the tables are those after the steps of h, for any runs whose steps have these codes
pub record ReadFromCodes (pairs h lengths steps catalogue seconds dep : List ℕ) : Type 0 where
  pub read : (runs : List (List Step)) → StepsOf runs h lengths steps → StepsRead (pairs_of pairs) runs h catalogue seconds dep

-- ---- the rows of the runs

-- the tables after the steps of h were read: the catalogues, and the places on which some step of each run directly depends
pub record StepsLinked (pairs : List Pair) (runs : List (List Step)) (h catalogue seconds links : List ℕ) : Type 0 where
  pub rows_are : Marks (RunLinked (conflict pairs runs) h) links
  pub firsts_catalogued : Catalogued pairs first_touches runs h catalogue
  pub seconds_catalogued : Catalogued pairs second_touches runs h seconds

-- reading x as place q, the next step of run r, after the steps of any history: the tables are those after one step more
pub record StepLinked (pairs catalogue catalogue' seconds seconds' links links' : List ℕ) (q r : ℕ) (x : Step) : Type 0 where
  pub read : (runs : List (List Step)) (h : List ℕ) → length h ≡ q → step_of runs r (count h r) ≡ x
      → StepsLinked (pairs_of pairs) runs h catalogue seconds links → StepsLinked (pairs_of pairs) runs (h ++ r ∷ []) catalogue' seconds' links'

-- the tables are those after the steps of h, for any runs whose steps have these codes
pub record LinkedFromCodes (pairs h lengths steps catalogue seconds links : List ℕ) : Type 0 where
  pub read : (runs : List (List Step)) → StepsOf runs h lengths steps → StepsLinked (pairs_of pairs) runs h catalogue seconds links
