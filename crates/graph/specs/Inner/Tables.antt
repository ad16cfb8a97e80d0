-- What the tables of units hold.
use Rattle.std.specs.Prelude.{ℕ, zero, suc, Bool, ◌+◌, ◌*◌, ◌≤◌, ◌<◌, ◌≡◌, ◌≢◌, List, length, get_or}
use Rattle.book.specs.Format.{run_limit, run_step_limit, step_limit}
use Rattle.book.specs.Book.{cuts_size, run_cuts}
use Rattle.theory.specs.History.{count, ordinal}
use Rattle.theory.specs.Inner.Places.{place_of}
use Rattle.theory.specs.Relative.{Depends}
use Rattle.dependence.specs.Marks.{Marks}
use Rattle.graph.specs.Units.{EachPlace, Firsts, Lasts}

-- the size of a table of a place for each step, by run and ordinal
abbrev pub places_size : ℕ
places_size = run_limit * run_step_limit

-- each place's ordinal, and each step's place
pub record Numbering (h ordinals places : List ℕ) : Type 0 where
  pub ordinals_are : (p : ℕ) → p < length h → get_or ordinals p 0 ≡ ordinal h p
  pub places_are : (r i : ℕ) → r < run_limit → i < count h r → get_or places (r * run_step_limit + i) 0 ≡ place_of h r i

pub record Counts (h counts : List ℕ) : Type 0 where
  pub are : (r : ℕ) → r < run_limit → get_or counts r 0 ≡ count h r

-- the flags of the cuts divide the runs into these units
pub record CutsOf (unit : ℕ → ℕ → ℕ → ℕ) (cuts : List ℕ) : Type 0 where
  pub rises : (r o i j : ℕ) → i ≤ j → unit r o i ≤ unit r o j
  pub uncut : (r o i : ℕ) → o < run_limit → suc i < run_step_limit → get_or cuts (r * run_cuts + suc i * run_limit + o) 0 ≡ 0 → unit r o (suc i) ≡ unit r o i
  pub cut : (r o i : ℕ) → o < run_limit → suc i < run_step_limit → get_or cuts (r * run_cuts + suc i * run_limit + o) 0 ≢ 0 → unit r o i < unit r o (suc i)

-- each place of `from` up to `to` has its entries in t, for any units that the flags make
pub record EachBy (E : (ℕ → ℕ → ℕ → ℕ) → List ℕ → ℕ → ℕ → ℕ → Type 0) (cuts h : List ℕ) (from to : ℕ) (t : List ℕ) : Type 0 where
  pub of : (unit : ℕ → ℕ → ℕ → ℕ) → CutsOf unit cuts → EachPlace (E unit h) from to t

-- where a row of flags, one for each run, and the rows of two places, stand
pub record RowRoom (at p from : ℕ) : Type 0 where
  pub flags : at + run_limit ≤ cuts_size
  pub to_row : p < step_limit
  pub from_row : from < step_limit
  pub apart : from ≢ p

-- the first m of u's row p are v, and its other rows are t's
pub record RowSet (t u : List ℕ) (p : ℕ) (v : ℕ → ℕ) (m : ℕ) : Type 0 where
  pub here : (o : ℕ) → o < m → get_or u (p * run_limit + o) 0 ≡ v o
  pub others : (k o : ℕ) → o < run_limit → k ≢ p → get_or u (k * run_limit + o) 0 ≡ get_or t (k * run_limit + o) 0

-- a where there is no flag, b where there is one
abbrev pub by_flag : ℕ → ℕ → ℕ → ℕ
by_flag zero a b = a
by_flag (suc n) a b = b

-- of each run o, what stands in t at `from`, or p where there is a cut
abbrev pub copied_row : List ℕ → ℕ → List ℕ → ℕ → ℕ → ℕ → ℕ
copied_row cuts at t p from o = by_flag (get_or cuts (at + o) 0) (get_or t (from * run_limit + o) 0) p

-- the tables are those of h, with this conflict and these units
pub record TablesBy (conflict : ℕ → ℕ → ℕ → ℕ → Bool) (unit : ℕ → ℕ → ℕ → ℕ) (h dep firsts lasts : List ℕ) : Type 0 where
  pub rises : (r o i j : ℕ) → i ≤ j → unit r o i ≤ unit r o j
  pub dep_marks : Marks (Depends conflict h) dep
  pub firsts_are : Firsts unit h firsts
  pub lasts_are : Lasts unit h lasts

-- with some conflict and units
pub record TablesOf (h dep firsts lasts : List ℕ) : Type 0 where
  pub conflict : ℕ → ℕ → ℕ → ℕ → Bool
  pub unit : ℕ → ℕ → ℕ → ℕ
  pub by : TablesBy conflict unit h dep firsts lasts
