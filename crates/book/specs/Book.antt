-- What a `Book` means, which books are valid, group by group, and what the reader promises of the one that it hands back.
use Rattle.std.specs.Prelude.{Result, Ok, Err, ℕ, zero, suc, ◌+◌, ◌*◌, ◌/◌, ◌%◌, ◌≤◌, ◌<◌, ◌≡◌, Bool, List, [], ◌∷◌, map, length, get_or, take, drop, replicate, eqb}
use Rattle.theory.specs.Lists.{sum}
use Rattle.theory.specs.History.{count}
use Rattle.theory.specs.Deck.{Pair, Touch, Step, single, transfer, Cut}
use Rattle.book.specs.Format.{Contents, contents, Outcome, refused, accepted, kind_limit, position_limit, run_limit, run_step_limit, step_limit, length_limit, pick}
use Rattle.book.specs.declared.Rules.{Rules}
use Rattle.book.specs.declared.Cause.{Cause}
use Rattle.book.specs.declared.Touch.{Touch as TouchValue}
use Rattle.book.specs.declared.Step.{Step as StepValue}
use Rattle.book.specs.declared.Step.TheVariants.{Single, Transfer}
use Rattle.book.specs.declared.Book.{Book}
use Rattle.book.specs.declared.Refusal.{Refusal}

-- the book of these tables and counts
abbrev pub book_of_tables : List ℕ → List ℕ → List ℕ → List ℕ → List ℕ → List ℕ → ℕ → ℕ → ℕ → Book
book_of_tables ps cs ss ls ns h d t k = record { pairs = ps; cuts = cs; steps = ss; lengths = ls; counts = ns; history = h; declared = d; total = t; done = k }

-- the book with another group of tables
abbrev pub set_pairs : Book → List ℕ → Book
set_pairs b ps = book_of_tables ps b.cuts b.steps b.lengths b.counts b.history b.declared b.total b.done

abbrev pub set_runs : Book → List ℕ → List ℕ → ℕ → ℕ → Book
set_runs b ls ss d t = book_of_tables b.pairs b.cuts ss ls b.counts b.history d t b.done

abbrev pub set_cuts : Book → List ℕ → Book
set_cuts b cs = book_of_tables b.pairs cs b.steps b.lengths b.counts b.history b.declared b.total b.done

abbrev pub set_history : Book → List ℕ → List ℕ → ℕ → Book
set_history b ns h k = book_of_tables b.pairs b.cuts b.steps b.lengths ns h b.declared b.total k

-- the book with other counts of runs, steps and done steps
abbrev pub set_counts : Book → ℕ → ℕ → ℕ → Book
set_counts b d t k = book_of_tables b.pairs b.cuts b.steps b.lengths b.counts b.history d t k

-- the indices of what is not 0, where the first of the list has index i
abbrev pub flagged : ℕ → List ℕ → List ℕ
flagged i [] = []
flagged i (x ∷ xs) = pick (eqb x 0) (flagged (suc i) xs) (i ∷ flagged (suc i) xs)

-- whether the flag of r is 0
abbrev pub unflagged : List ℕ → ℕ → Bool
unflagged flags r = eqb (get_or flags r 0) 0

-- the sizes of the tables of pairs and of cuts
abbrev pub pairs_size : ℕ
pairs_size = kind_limit * kind_limit

abbrev pub cuts_size : ℕ
cuts_size = run_limit * run_step_limit * run_limit

-- how many entries the table of cuts has of each run
abbrev pub run_cuts : ℕ
run_cuts = run_step_limit * run_limit

-- the codes of touches, and of steps, are below these
abbrev pub touch_limit : ℕ
touch_limit = kind_limit * position_limit

abbrev pub code_limit : ℕ
code_limit = (touch_limit + 1) * touch_limit

-- the pair and the cut of an index
abbrev pub pair_of : ℕ → Pair
pair_of i = record { a = i / kind_limit; b = i % kind_limit }

abbrev pub cut_of : ℕ → Cut
cut_of i = record { of_run = i / run_cuts; after = i % run_cuts / run_limit; seen_by = i % run_limit }

-- the touch of a code, and the step of a code: c is 0 for a single one, or one more than the code of a transfer's second touch
abbrev pub touch_coded : ℕ → Touch
touch_coded c = record { kind = c / position_limit; position = c % position_limit }

abbrev pub step_with : Touch → ℕ → Step
step_with t zero = single t
step_with t (suc c) = transfer t (touch_coded c)

abbrev pub step_coded : ℕ → Step
step_coded c = step_with (touch_coded (c % touch_limit)) (c / touch_limit)

-- the touch and the step that a value of the code's type is, and their codes
abbrev pub as_touch : TouchValue → Touch
as_touch t = record { kind = t.kind; position = t.position }

abbrev pub as_step : StepValue → Step
as_step (Single t) = single (as_touch t)
as_step (Transfer t u) = transfer (as_touch t) (as_touch u)

abbrev pub touch_code : TouchValue → ℕ
touch_code t = t.kind * position_limit + t.position

abbrev pub step_code : StepValue → ℕ
step_code (Single t) = touch_code t
step_code (Transfer t u) = (touch_code u + 1) * touch_limit + touch_code t

-- the steps divided into runs of these lengths
abbrev pub runs_of_lengths : List ℕ → List Step → List (List Step)
runs_of_lengths [] ss = []
runs_of_lengths (n ∷ ns) ss = take n ss ∷ runs_of_lengths ns (drop n ss)

-- what the tables of each group mean
abbrev pub pairs_of : List ℕ → List Pair
pairs_of ps = map pair_of (flagged 0 ps)

abbrev pub runs_of : List ℕ → List ℕ → ℕ → ℕ → List (List Step)
runs_of ls ss d t = runs_of_lengths (take d ls) (map step_coded (take t ss))

abbrev pub cuts_of : List ℕ → List Cut
cuts_of cs = map cut_of (flagged 0 cs)

-- what a book means
unfoldable pub contents_of : Book → Contents
contents_of b = contents (pairs_of b.pairs) (runs_of b.lengths b.steps b.declared b.total) (cuts_of b.cuts) (take b.done b.history)

-- the tables have room for all that the rules allow
pub record Fitting (ρ : Rules) : Type 0 where
  pub steps : ρ.step_limit ≤ step_limit
  pub bytes : ρ.length_limit ≤ length_limit

-- n numbers, each 0 or 1
pub record Flags (n : ℕ) (l : List ℕ) : Type 0 where
  pub long : length l ≡ n
  pub small : (i : ℕ) → get_or l i 0 ≤ 1

-- n numbers below the limit, and from `end` on all 0
pub record Column (n limit end : ℕ) (l : List ℕ) : Type 0 where
  pub long : length l ≡ n
  pub small : (i : ℕ) → get_or l i 0 < limit
  pub blank : (i : ℕ) → end ≤ i → get_or l i 0 ≡ 0

-- d runs of these lengths, whose t steps have these codes
pub record RunsValid (ls ss : List ℕ) (d t : ℕ) : Type 0 where
  pub lengths : Column run_limit (suc run_step_limit) d ls
  pub steps : Column step_limit code_limit t ss
  pub few_runs : d ≤ run_limit
  pub few_steps : t ≤ step_limit
  pub total : sum (take d ls) ≡ t

-- a history of k done steps, with the counts of each run's, of which no run has more than its length
pub record HistoryValid (ls ns h : List ℕ) (k : ℕ) : Type 0 where
  pub history : Column step_limit run_limit k h
  pub long : length ns ≡ run_limit
  pub total : sum ns ≡ k
  pub counts : (r : ℕ) → get_or ns r 0 ≡ count (take k h) r
  pub within : (r : ℕ) → get_or ns r 0 ≤ get_or ls r 0

-- a book whose tables have their sizes and ranges, are 0 behind their counts, and agree with each other. Every book that the reader hands back is one
pub record Valid (b : Book) : Type 0 where
  pub pairs : Flags pairs_size b.pairs
  pub runs : RunsValid b.lengths b.steps b.declared b.total
  pub cuts : Flags cuts_size b.cuts
  pub history : HistoryValid b.lengths b.counts b.history b.done

-- a valid book of these contents
pub record Represents (d : Contents) (b : Book) : Type 0 where
  pub contents : contents_of b ≡ d
  pub valid : Valid b

-- the book without pairs, runs, cuts and history: every number is 0
unfoldable pub empty_book : Book
empty_book = book_of_tables (replicate pairs_size 0) (replicate cuts_size 0) (replicate step_limit 0) (replicate run_limit 0) (replicate run_limit 0) (replicate step_limit 0) 0 0 0

-- a refusal by a cause, at a place
abbrev pub refusal_at : Cause → ℕ → Refusal
refusal_at cause place = record { cause = cause; place = place }

-- what a reading says
abbrev pub outcome_of : Result Book Refusal → Outcome
outcome_of (Ok b) = accepted (contents_of b)
outcome_of (Err e) = refused e.cause e.place

-- a valid book of the contents that the outcome accepts
pub record AcceptedAs (o : Outcome) (b : Book) : Type 0 where
  pub outcome : o ≡ accepted (contents_of b)
  pub valid : Valid b

-- a reading of this outcome
abbrev pub ReadAs : Outcome → Result Book Refusal → Type 0
ReadAs o (Ok b) = AcceptedAs o b
ReadAs o (Err e) = o ≡ refused e.cause e.place
