-- What the functions promise each other.
use Rattle.std.specs.Prelude.{ℕ, ◌≤◌, ◌<◌, ◌≡◌, List, get_or, take}
use Rattle.theory.specs.History.{count}
use Rattle.book.specs.Format.{step_limit}
use Rattle.book.specs.Book.{HistoryValid}

-- m is the least number that no element from `start` on is above
pub record Largest (l : List ℕ) (start m : ℕ) : Type 0 where
  pub above : (i : ℕ) → start ≤ i → get_or l i 0 ≤ m
  pub least : (n : ℕ) → ((i : ℕ) → start ≤ i → get_or l i 0 ≤ n) → m ≤ n

-- n is 0 exactly where each element from `start` on is below the limit
pub record Counted (l : List ℕ) (limit start n : ℕ) : Type 0 where
  pub all : n ≡ 0 → (i : ℕ) → start ≤ i → get_or l i 0 < limit
  pub none : ((i : ℕ) → start ≤ i → get_or l i 0 < limit) → n ≡ 0

-- of the runs below n, the counts are those of the first k of h, and not above the lengths
pub record CountsValid (ls ns h : List ℕ) (k n : ℕ) : Type 0 where
  pub counts : (r : ℕ) → r < n → get_or ns r 0 ≡ count (take k h) r
  pub within : (r : ℕ) → r < n → get_or ns r 0 ≤ get_or ls r 0

-- a valid history that its table has room for
pub record HistoryWithin (ls ns h : List ℕ) (k : ℕ) : Type 0 where
  pub few : k ≤ step_limit
  pub valid : HistoryValid ls ns h k
