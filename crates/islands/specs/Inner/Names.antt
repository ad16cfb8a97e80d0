-- The name of each run's component, in an array, and how it is found join by join.
use Rattle.std.specs.Prelude.{Result, Ok, Err, ℕ, ◌+◌, ◌*◌, ◌<◌, min, max, ◌≡◌, ◌⊎◌, cond, List, length, get_or, eqb}
use Rattle.bits.specs.Table.{row_bits, bit_at}
use Rattle.theory.specs.Components.{Components}
use Rattle.theory.proofs.Connected.{Names}
use Rattle.theory.specs.History.{project}
use Rattle.book.specs.Format.{Contents, run_limit, with_history}
use Rattle.book.specs.Book.{unflagged, contents_of, refusal_at}
use Rattle.book.specs.Meaning.{conflict_of}
use Rattle.book.specs.declared.Book.{Book}
use Rattle.book.specs.declared.Refusal.{Refusal}
use Rattle.book.specs.declared.Cause.TheVariants.{NoIsland}
use Rattle.islands.specs.Islands.{IslandsOf, Smallest, island_book}
use Rattle.dependence.specs.Catalogue.{base, run_part}

-- the name of run r in the array t; a run for which it has no room has its own number
abbrev pub name_in : List ℕ → ℕ → ℕ
name_in t r = get_or t r r

-- the row of run r has a place of run s
pub record LinksTo (catalogue links : List ℕ) (r s : ℕ) : Type 0 where
  pub from_run : r < run_limit
  pub to_run : s < run_limit
  pub p : ℕ
  pub in_row : p < row_bits
  pub linked : bit_at links r p ≡ 1
  pub of_run : bit_at catalogue (run_part * base + s) p ≡ 1

-- either way round
abbrev pub LinkedBy : List ℕ → List ℕ → ℕ → ℕ → Type 0
LinkedBy catalogue links r s = LinksTo catalogue links r s ⊎ LinksTo catalogue links s r

-- u is t with one number in place of another
pub record Renamed (t : List ℕ) (from to : ℕ) (u : List ℕ) : Type 0 where
  pub long : length u ≡ run_limit
  pub at : (k : ℕ) → k < run_limit → get_or u k 0 ≡ cond (eqb (get_or t k 0) from) to (get_or t k 0)

-- u is t with the smaller of the names of r and s in place of the larger, if r links to s; t itself, if it does not, or they have one name already
pub data Connects (catalogue links t : List ℕ) (r s : ℕ) (u : List ℕ) : Type 0 where
  alike : get_or t r 0 ≡ get_or t s 0 → u ≡ t → Connects catalogue links t r s u
  apart : ¬ LinksTo catalogue links r s → u ≡ t → Connects catalogue links t r s u
  together : LinksTo catalogue links r s → Renamed t (max (get_or t r 0) (get_or t s 0)) (min (get_or t r 0) (get_or t s 0)) u → Connects catalogue links t r s u

-- of the n runs, the links of those below r
pub record LinkBelow (catalogue links : List ℕ) (n r x y : ℕ) : Type 0 where
  pub from_below : x < r
  pub to_below : y < n
  pub links_to : LinksTo catalogue links x y

-- the names after the links of the runs below r, which are smaller runs that are connected
pub record NamesUpTo (catalogue links : List ℕ) (n r : ℕ) (t : List ℕ) : Type 0 where
  pub long : length t ≡ run_limit
  pub names : Names (LinkedBy catalogue links) (LinkBelow catalogue links n r) (name_in t)

-- each run has its own name
pub record Own (t : List ℕ) : Type 0 where
  pub long : length t ≡ run_limit
  pub own : (k : ℕ) → name_in t k ≡ k

-- the names of the components of a book's runs
pub record BookNames (b : Book) (t : List ℕ) : Type 0 where
  pub long : length t ≡ run_limit
  pub components : Components (conflict_of (contents_of b)) (contents_of b).history (name_in t)

-- m is one of the first n runs, and has its own name
pub record HasOwnName (t : List ℕ) (n m : ℕ) : Type 0 where
  pub below : m < n
  pub own : name_in t m ≡ m

-- the flags of the runs that do not have the name m
pub record OthersFlagged (t : List ℕ) (m : ℕ) (flags : List ℕ) : Type 0 where
  pub at : (k : ℕ) → k < run_limit → unflagged flags k ≡ eqb (get_or t k 0) m

-- m is the smallest run of its island, and the flags are those of the other islands' runs
pub record OutsideFlagged (c : Contents) (m : ℕ) (flags : List ℕ) : Type 0 where
  pub name : ℕ → ℕ
  pub islands : IslandsOf c name
  pub smallest : Smallest c name m
  pub left : with_history c (project (unflagged flags) c.history) ≡ island_book c name m

-- m is no island's smallest run, and the refusal is 27
pub record NoIslandOf (c : Contents) (m : ℕ) (e : Refusal) : Type 0 where
  pub name : ℕ → ℕ
  pub islands : IslandsOf c name
  pub not_smallest : ¬ Smallest c name m
  pub is : e ≡ refusal_at NoIsland 0

abbrev pub OutsideFound : Contents → ℕ → Result (List ℕ) Refusal → Type 0
OutsideFound c m (Ok flags) = OutsideFlagged c m flags
OutsideFound c m (Err e) = NoIslandOf c m e
