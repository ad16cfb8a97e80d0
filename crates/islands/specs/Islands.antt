-- What the calls on a book's islands promise (document 02, change 8). An island is a connected component of the book's runs, by conflicts of its done
-- steps (theory Components), and is named by its smallest run.
use Rattle.std.specs.Prelude.{Result, Ok, Err, ℕ, ◌-◌, ◌≤◌, ◌<◌, ◌≡◌, ◌⊎◌, List, ◌++◌, length, replicate}
use Rattle.theory.specs.Components.{Components, smallest_of_each, smallest_runs, component_history}
use Rattle.book.specs.Format.{Contents, Outcome, refused, accepted, run_limit, step_limit, read, with_history}
use Rattle.book.specs.Meaning.{conflict_of}
use Rattle.book.specs.declared.Cause.TheVariants.{JudgeBufferShort, NoIsland}
use Rattle.book.specs.Book.{refusal_at}
use Rattle.book.specs.declared.Refusal.{Refusal}
use Rattle.judge.specs.Judged.{JudgeAnswer}
use Rattle.judge.specs.Judge.{RefusedAs, OutcomeJudged}
use Rattle.islands.specs.declared.IslandList.{IslandList}
use Rattle.islands.specs.declared.IslandSteps.{IslandSteps}

-- the smallest run of each run's island
abbrev pub IslandsOf : Contents → (ℕ → ℕ) → Type 0
IslandsOf c name = Components (conflict_of c) c.history name

-- m is declared, and the smallest run of its island
pub record Smallest (c : Contents) (name : ℕ → ℕ) (m : ℕ) : Type 0 where
  pub declared : m < length c.runs
  pub own : name m ≡ m

-- 02: the book with the history of the island whose smallest run is m, in its old order
abbrev pub island_book : Contents → (ℕ → ℕ) → ℕ → Contents
island_book c name m = with_history c (component_history name c.history m)

-- n numbers: those of l, and 0 behind them
abbrev pub padded : ℕ → List ℕ → List ℕ
padded n l = l ++ replicate (n - length l) 0

-- ---- the islands

-- of n runs: the smallest run of each one's island, the islands by their smallest runs, and how many of each there are
abbrev pub island_list : (ℕ → ℕ) → ℕ → IslandList
island_list name n = record {
  smallest = padded run_limit (smallest_of_each name n);
  list = padded run_limit (smallest_runs name n);
  runs = n;
  count = length (smallest_runs name n);
}

-- the islands of a book with contents c
pub record IslandsFound (c : Contents) (r : Result IslandList Refusal) : Type 0 where
  pub name : ℕ → ℕ
  pub islands : IslandsOf c name
  pub is : r ≡ Ok (island_list name (length c.runs))

abbrev pub OutcomeListed : Outcome → Result IslandList Refusal → Type 0
OutcomeListed (refused cause place) r = r ≡ Err (refusal_at cause place)
OutcomeListed (accepted c) r = IslandsFound c r

-- of the bytes s: refused as the reader refuses, or the islands
pub record IslandsListed (s : List ℕ) (r : Result IslandList Refusal) : Type 0 where
  pub listed : OutcomeListed (read s) r

-- ---- an island's history

-- the history's runs, and how many they are
abbrev pub island_steps : List ℕ → IslandSteps
island_steps h = record { history = padded step_limit h; count = length h }

-- of a book with contents c: the history of the island whose smallest run is m; 27, the number only, where m is no island's smallest
pub record HistoryFound (c : Contents) (m : ℕ) (r : Result IslandSteps Refusal) : Type 0 where
  pub name : ℕ → ℕ
  pub islands : IslandsOf c name
  pub found : Smallest c name m → r ≡ Ok (island_steps (island_book c name m).history)
  pub no_island : ¬ Smallest c name m → r ≡ Err (refusal_at NoIsland 0)

abbrev pub OutcomeHistory : Outcome → ℕ → Result IslandSteps Refusal → Type 0
OutcomeHistory (refused cause place) m r = r ≡ Err (refusal_at cause place)
OutcomeHistory (accepted c) m r = HistoryFound c m r

-- of the bytes s: refused as the reader refuses, and then by 27
pub record IslandHistory (s : List ℕ) (m : ℕ) (r : Result IslandSteps Refusal) : Type 0 where
  pub history : OutcomeHistory (read s) m r

-- ---- an island judged

-- order and cycle are the buffers before the call, order' and cycle' after it
module _ (order order' cycle cycle' : List ℕ) where
  -- of a book with contents c: the verdict on the book with the history of the island whose smallest run is m; 27 where m is no island's smallest
  pub record PartJudged (c : Contents) (m : ℕ) (r : JudgeAnswer) : Type 0 where
    pub name : ℕ → ℕ
    pub islands : IslandsOf c name
    pub found : Smallest c name m → OutcomeJudged order order' cycle cycle' (accepted (island_book c name m)) r
    pub no_island : ¬ Smallest c name m → RefusedAs order order' cycle cycle' NoIsland 0 r

  abbrev pub OutcomePart : Outcome → ℕ → JudgeAnswer → Type 0
  OutcomePart (refused cause place) m r = RefusedAs order order' cycle cycle' cause place r
  OutcomePart (accepted c) m r = PartJudged c m r

  -- of the bytes s: 12 comes first, then the reader's refusals, then 27
  pub record IslandJudged (s : List ℕ) (m : ℕ) (r : JudgeAnswer) : Type 0 where
    pub short : (length order < step_limit) ⊎ (length cycle < step_limit) → RefusedAs order order' cycle cycle' JudgeBufferShort 0 r
    pub long : step_limit ≤ length order → step_limit ≤ length cycle → OutcomePart (read s) m r
