-- What the tables of a history's steps hold.
use Rattle.std.specs.Prelude.{ℕ, ◌+◌, ◌*◌, ◌≤◌, ◌<◌, ◌≡◌, Bool, List, length, get_or, take, set}
use Rattle.bits.specs.Table.{row_bits, bit_at}
use Rattle.book.specs.Format.{run_limit, run_step_limit, step_limit}
use Rattle.book.specs.Book.{step_coded, as_step}
use Rattle.book.specs.declared.Step.{Step as StepValue}
use Rattle.theory.specs.Lists.{sum}
use Rattle.theory.specs.History.{count, run, ordinal}
use Rattle.theory.specs.Relative.{DirectlyDepends}
use Rattle.theory.specs.Deck.{Step, step_of}
use Rattle.dependence.specs.Catalogue.{base, run_part}
use Rattle.dependence.specs.Dependence.{KindsLow}

pub record Small (m : ℕ) (l : List ℕ) : Type 0 where
  pub small : (i : ℕ) → get_or l i 0 < m

-- the first n of history are the run numbers of a history in which no run has more than run_step_limit steps
pub record HistoryOf (history : List ℕ) (n : ℕ) : Type 0 where
  pub long : length history ≡ step_limit
  pub within : n ≤ step_limit
  pub runs : Small run_limit history
  pub few : (r : ℕ) → count (take n history) r ≤ run_step_limit

-- the runs of the first n places are below m
pub record Declared (history : List ℕ) (n m : ℕ) : Type 0 where
  pub few : m ≤ run_limit
  pub declared : (p : ℕ) → p < n → get_or history p 0 < m

-- r stands at index i of t, and is below m
pub record NumberAt (t : List ℕ) (i m r : ℕ) : Type 0 where
  pub is : r ≡ get_or t i 0
  pub small : r < m

-- ---- the steps of a history

-- run r's steps begin where the steps of the runs before it end
pub record Starts (lengths starts : List ℕ) : Type 0 where
  pub are : (r : ℕ) → r < run_limit → get_or starts r 0 ≡ sum (take r lengths)

-- there is room for the steps of runs of these lengths, and no run has more done steps
pub record RunsRoom (h lengths : List ℕ) : Type 0 where
  pub total : sum lengths ≤ step_limit
  pub within : (r : ℕ) → count h r ≤ get_or lengths r 0

-- the step of a code in a table
abbrev pub step_in : List ℕ → ℕ → Step
step_in steps i = step_coded (get_or steps i 0)

-- x is that step
pub record StepAt (steps : List ℕ) (i : ℕ) (x : StepValue) : Type 0 where
  pub is : as_step x ≡ step_in steps i
  pub kinds : KindsLow (as_step x)

-- r is the run of place q and x its next step, and then the next step of r is the one behind
pub record NextTaken (history steps next next' : List ℕ) (q r : ℕ) (x : StepValue) : Type 0 where
  pub of_run : NumberAt history q run_limit r
  pub step : StepAt steps (get_or next r 0) x
  pub one_more : next' ≡ set next r (get_or next r 0 + 1)

-- the steps of h are, in these runs, those that the table has of runs of these lengths, one behind the other
pub record StepsOf (runs : List (List Step)) (h lengths steps : List ℕ) : Type 0 where
  pub at : (p : ℕ) → p < length h → step_of runs (run h p) (ordinal h p) ≡ step_in steps (sum (take (run h p) lengths) + ordinal h p)

-- ---- the places of each run, in the catalogue of first touches

-- p is one of the first m places, of run r
pub record InRun (h : List ℕ) (m p r : ℕ) : Type 0 where
  pub below : p < m
  pub runs : run h p ≡ r

-- the rows of the run part are the places of each run
pub record RunRows (h : List ℕ) (n : ℕ) (catalogue : List ℕ) : Type 0 where
  pub sound : (p r : ℕ) → p < row_bits → r < run_limit → bit_at catalogue (run_part * base + r) p ≡ 1 → InRun h n p r
  pub complete : (p r : ℕ) → p < row_bits → r < run_limit → InRun h n p r → bit_at catalogue (run_part * base + r) p ≡ 1

-- some step of run r directly depends on place p
pub record RunLinked (conflict : ℕ → ℕ → ℕ → ℕ → Bool) (h : List ℕ) (p r : ℕ) : Type 0 where
  pub q : ℕ
  pub directly : DirectlyDepends conflict h p q
  pub of_run : run h q ≡ r
