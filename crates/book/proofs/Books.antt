-- What a valid book means by its tables, group by group, and what each stored command adds to it.
use Prim.Native.Nat.{ℕ, suc, ◌+◌, ◌-◌, ◌*◌, ◌≤◌, ◌<◌}
use mathlib.Core.Path.{◌≡◌, refl, ap, sym, ◌∙◌}
use mathlib.Core.List.{List, [], ◌∷◌, ◌++◌, map}
use native.Mathlib.Omega.{arith}
use native.Mathlib.Numerals.{add-one}
use native.Mathlib.Decide.{ℕ_discrete}
use borrow.Author.Tests.{eq-eqb, ne_eqb}
use lib.ListN.{length, get_or, take, set, length-set, length-map}
use lib.Seq.{take-suc, length-take-le, get_or-set_same, get_or-set_other}
use lib.Dec.{leb}
use Rattle.theory.specs.Lists.{sum}
use Rattle.theory.specs.History.{count}
use Rattle.book.specs.Format.{kind_limit, run_limit, run_step_limit, step_limit, pair, run, step, cut, done, effect, last, lengths, above_pair, above_cut}
use Rattle.book.specs.Book.{book_of_tables, pairs_size, cuts_size, run_cuts, code_limit, set_pairs, set_runs, set_cuts, set_history, flagged, pair_of, cut_of, step_coded, contents_of, Flags, RunsValid, HistoryValid, Valid, Represents}
use Rattle.book.specs.Inner.Room.{Next, RoomFlag, RoomStep, RoomDone}
use Rattle.book.specs.declared.Book.{Book}
use Rattle.theory.proofs.Lists.{take_more, take_last, take_last_set, get_or_front, sum_snoc, sum_set, sum_le, sum_lt, count_snoc, map_snoc}
use Rattle.book.proofs.Groups.{last_snoc, lengths_runs, length_lengths, runs_snoc, runs_more, flagged_more, flags_set, column_set, column_more, above_pair_index, above_cut_index}

-- the codes of t steps
module _ (ls ss : List ℕ) (d t : ℕ) (v : RunsValid ls ss d t) where
  pub codes_long : length (map step_coded (take t ss)) ≡ t
  codes_long = length-map (take t ss) step_coded ∙ length-take-le t ss (omega (arith, v.steps.long, v.few_steps))

  lengths_last : 0 < d → take d ls ≡ take (d - 1) ls ++ get_or ls (d - 1) 0 ∷ []
  lengths_last h = take_last ls d h (omega (arith, v.lengths.long, v.few_runs))

-- the counts of done steps beside the lengths of runs
module _ (ls ss ns h : List ℕ) (d t k : ℕ) (v : RunsValid ls ss d t) (w : HistoryValid ls ns h k) where
  counts_within : (r : ℕ) → get_or ns r 0 ≤ get_or (take d ls) r 0
  counts_within r = rw (get_or_front d ls v.lengths.blank r) (w.within r)

  pub counts_few : k ≤ t
  counts_few = omega (arith, sum_le ns (take d ls) counts_within, v.total, w.total)

  -- a run that has a step left leaves one in all
  pub count_below : (r : ℕ) → get_or ns r 0 < get_or ls r 0 → k < t
  count_below r l = omega (arith, sum_lt ns (take d ls) r counts_within (rw (get_or_front d ls v.lengths.blank r) l), v.total, w.total)

-- the contents of a valid book, by its fields
module _ (b : Book) (v : Valid b) where
  pub lengths_are : lengths (contents_of b).runs ≡ take b.declared b.lengths
  unfolding contents_of
  lengths_are = lengths_runs (take b.declared b.lengths) (map step_coded (take b.total b.steps)) (omega (arith, codes_long b.lengths b.steps b.declared b.total v.runs, v.runs.total))

  pub runs_are : length (contents_of b).runs ≡ b.declared
  runs_are = sym (length_lengths (contents_of b).runs) ∙ ap length lengths_are ∙ length-take-le b.declared b.lengths (omega (arith, v.runs.lengths.long, v.runs.few_runs))

  pub sum_is : sum (lengths (contents_of b).runs) ≡ b.total
  sum_is = ap sum lengths_are ∙ v.runs.total

  pub last_is : 0 < b.declared → last (lengths (contents_of b).runs) ≡ get_or b.lengths (b.declared - 1) 0
  last_is h = ap last (lengths_are ∙ lengths_last b.lengths b.steps b.declared b.total v.runs h) ∙ last_snoc (take (b.declared - 1) b.lengths) (get_or b.lengths (b.declared - 1) 0)

  pub length_is : (r : ℕ) → get_or (lengths (contents_of b).runs) r 0 ≡ get_or b.lengths r 0
  length_is r = ap (λ (l : List ℕ). get_or l r 0) lengths_are ∙ get_or_front b.declared b.lengths v.runs.lengths.blank r

  pub history_is : (contents_of b).history ≡ take b.done b.history
  unfolding contents_of
  history_is = refl

  pub done_few : b.done ≤ b.total
  done_few = counts_few b.lengths b.steps b.counts b.history b.declared b.total b.done v.runs v.history

  -- no more steps are done than a history has room for
  pub done_within : b.done ≤ step_limit
  done_within = omega (arith, done_few, v.runs.few_steps)

  pub history_long : length (contents_of b).history ≡ b.done
  history_long = ap length history_is ∙ length-take-le b.done b.history (omega (arith, done_within, v.history.history.long))

  pub count_is : (r : ℕ) → count (contents_of b).history r ≡ get_or b.counts r 0
  unfolding contents_of
  count_is r = sym (v.history.counts r)

  pub pair_above : (next x y : ℕ) → Next b.pairs next → y < kind_limit → above_pair (contents_of b).pairs (record { a = x; b = y }) ≡ leb next (x * kind_limit + y)
  unfolding contents_of
  pair_above next x y n h = above_pair_index (flagged 0 b.pairs) x y h ∙ rw (← n.last)

  pub cut_above : (next r j o : ℕ) → Next b.cuts next → j < run_step_limit → o < run_limit
      → above_cut (contents_of b).cuts (record { of_run = r; after = j; seen_by = o }) ≡ leb next (r * run_cuts + j * run_limit + o)
  unfolding contents_of
  cut_above next r j o n h k = above_cut_index (flagged 0 b.cuts) r j o h k ∙ rw (← n.last)

-- a valid book by its groups
module _ (ps cs ss ls ns h : List ℕ) (d t k : ℕ) where
  pub valid_of : Flags pairs_size ps → RunsValid ls ss d t → Flags cuts_size cs → HistoryValid ls ns h k → Valid (book_of_tables ps cs ss ls ns h d t k)
  valid_of p r c w = record { pairs = p; runs = r; cuts = c; history = w }

-- with another group
valid_pairs : (b : Book) (ps : List ℕ) → Valid b → Flags pairs_size ps → Valid (set_pairs b ps)
valid_pairs b ps v f = valid_of _ _ _ _ _ _ _ _ _ f v.runs v.cuts v.history

pub valid_cuts : (b : Book) (cs : List ℕ) → Valid b → Flags cuts_size cs → Valid (set_cuts b cs)
valid_cuts b cs v f = valid_of _ _ _ _ _ _ _ _ _ v.pairs v.runs f v.history

valid_runs : (b : Book) (ls ss : List ℕ) (d t : ℕ) → Valid b → RunsValid ls ss d t → HistoryValid ls b.counts b.history b.done → Valid (set_runs b ls ss d t)
valid_runs b ls ss d t v r h = valid_of _ _ _ _ _ _ _ _ _ v.pairs r v.cuts h

pub valid_history : (b : Book) (ns h : List ℕ) (k : ℕ) → Valid b → HistoryValid b.lengths ns h k → Valid (set_history b ns h k)
valid_history b ns h k v w = valid_of _ _ _ _ _ _ _ _ _ v.pairs v.runs v.cuts w

-- a pair more
abbrev pub with_pair : Book → ℕ → Book
with_pair b i = set_pairs b (set b.pairs i 1)

pub represents_pair : (b : Book) (next i : ℕ) → Valid b → Next b.pairs next → RoomFlag pairs_size next i → Represents (effect (pair (pair_of i)) (contents_of b)) (with_pair b i)
unfolding contents_of
represents_pair b next i v n m = record {
  contents = rw (flagged_more b.pairs next i n m.rising (omega (arith, m.low, v.pairs.long)), map_snoc pair_of (flagged 0 b.pairs) i);
  valid = valid_pairs b _ v (flags_set pairs_size b.pairs i v.pairs);
}

-- a cut more
abbrev pub with_cut : Book → ℕ → Book
with_cut b i = set_cuts b (set b.cuts i 1)

pub represents_cut : (b : Book) (next i : ℕ) → Valid b → Next b.cuts next → RoomFlag cuts_size next i → Represents (effect (cut (cut_of i)) (contents_of b)) (with_cut b i)
unfolding contents_of
represents_cut b next i v n m = record {
  contents = rw (flagged_more b.cuts next i n m.rising (omega (arith, m.low, v.cuts.long)), map_snoc cut_of (flagged 0 b.cuts) i);
  valid = valid_cuts b _ v (flags_set cuts_size b.cuts i v.cuts);
}

-- a run more, without steps
abbrev pub with_run : Book → Book
with_run b = set_runs b b.lengths b.steps (b.declared + 1) b.total

module _ (ls ss : List ℕ) (d t : ℕ) (v : RunsValid ls ss d t) (h : d < run_limit) where
  lengths_run : take (d + 1) ls ≡ take d ls ++ 0 ∷ []
  lengths_run = rw (add-one, take-suc ls d 0 (omega (arith, v.lengths.long)), v.lengths.blank d (omega arith))

  runs_run : RunsValid ls ss (d + 1) t
  runs_run = record {
    lengths = column_more run_limit (suc run_step_limit) d ls (d + 1) v.lengths (omega arith);
    steps = v.steps;
    few_runs = omega arith;
    few_steps = v.few_steps;
    total = ap sum lengths_run ∙ sum_snoc (take d ls) 0 ∙ omega (arith, v.total);
  }

pub represents_run : (b : Book) (r : ℕ) → Valid b → b.declared < run_limit → Represents (effect (run r) (contents_of b)) (with_run b)
unfolding contents_of
represents_run b r v h = record {
  contents = rw (lengths_run b.lengths b.steps b.declared b.total v.runs h) (rw runs_snoc);
  valid = valid_runs b _ _ _ _ v (runs_run b.lengths b.steps b.declared b.total v.runs h) v.history;
}

-- a step more in the last run
module _ (ls ss : List ℕ) (d t c : ℕ) (v : RunsValid ls ss d t) (m : RoomStep ls d t c) where
  abbrev last_length : ℕ
  last_length = get_or ls (d - 1) 0

  abbrev lengths_before : List ℕ
  lengths_before = take (d - 1) ls

  abbrev lengths_after : List ℕ
  lengths_after = set ls (d - 1) (last_length + 1)

  abbrev codes_after : List ℕ
  codes_after = set ss t c

  lengths_step : take d lengths_after ≡ lengths_before ++ (last_length + 1) ∷ []
  lengths_step = take_last_set ls d _ m.declared (omega (arith, v.lengths.long, v.few_runs))

  steps_step : map step_coded (take (t + 1) codes_after) ≡ map step_coded (take t ss) ++ step_coded c ∷ []
  steps_step = ap (map step_coded) (take_more ss t c (omega (arith, v.steps.long, m.few))) ∙ map_snoc step_coded (take t ss) c

  sum_before : sum lengths_before + last_length ≡ t
  sum_before = sym (sum_snoc lengths_before last_length) ∙ ap sum (sym (lengths_last ls ss d t v m.declared)) ∙ v.total

  runs_step : RunsValid lengths_after codes_after d (t + 1)
  runs_step = record {
    lengths = column_set run_limit (suc run_step_limit) d ls (d - 1) (last_length + 1) d v.lengths (omega (arith, m.declared)) (omega arith) (omega (arith, m.short));
    steps = column_set step_limit code_limit t ss t c (t + 1) v.steps (omega arith) (omega arith) m.low;
    few_runs = v.few_runs;
    few_steps = omega (arith, m.few);
    total = ap sum lengths_step ∙ sum_snoc lengths_before _ ∙ omega (arith, sum_before);
  }

  -- no run is shorter than it was
  within_step : (n r : ℕ) → n ≤ get_or ls r 0 → n ≤ get_or lengths_after r 0
  within_step n r l = go (ℕ_discrete r (d - 1))
    where
      go : Dec (r ≡ d - 1) → n ≤ get_or lengths_after r 0
      go (yes e) = rw (e, get_or-set_same ls (d - 1) (last_length + 1) 0 (omega (arith, v.lengths.long, v.few_runs, m.declared))) (omega (arith, ap (λ (i : ℕ). get_or ls i 0) e))
      go (no n) = rw (get_or-set_other ls (d - 1) r (last_length + 1) 0 n) l

abbrev pub with_step : Book → ℕ → Book
with_step b c = set_runs b (set b.lengths (b.declared - 1) (get_or b.lengths (b.declared - 1) 0 + 1)) (set b.steps b.total c) b.declared (b.total + 1)

module _ (b : Book) (c : ℕ) (v : Valid b) (m : RoomStep b.lengths b.declared b.total c) where
  pub represents_step : Represents (effect (step (step_coded c)) (contents_of b)) (with_step b c)
  unfolding contents_of
  represents_step =
      let ls = b.lengths in
      let ss = b.steps in
      let d = b.declared in
      let t = b.total in
      record {
        contents = rw (lengths_step ls ss d t c v.runs m, steps_step ls ss d t c v.runs m, lengths_last ls ss d t v.runs m.declared)
            (rw (runs_more (take (d - 1) ls) (get_or ls (d - 1) 0) (map step_coded (take t ss)) (step_coded c) (sum_before ls ss d t c v.runs m ∙ sym (codes_long ls ss d t v.runs))));
        valid = valid_runs b _ _ _ _ v (runs_step ls ss d t c v.runs m) (record {
          history = v.history.history;
          long = v.history.long;
          total = v.history.total;
          counts = v.history.counts;
          within = λ r. within_step ls ss d t c v.runs m (get_or b.counts r 0) r (v.history.within r);
        });
      }

-- a step more done
module _ (ls ns h : List ℕ) (k r : ℕ) (v : HistoryValid ls ns h k) (low : r < run_limit) (few : k < step_limit) (left : get_or ns r 0 < get_or ls r 0) where
  abbrev counts_after : List ℕ
  counts_after = set ns r (get_or ns r 0 + 1)

  pub history_done : take (k + 1) (set h k r) ≡ take k h ++ r ∷ []
  history_done = take_more h k r (omega (arith, v.history.long))

  counts_same : get_or counts_after r 0 ≡ get_or ns r 0 + 1
  counts_same = get_or-set_same ns r (get_or ns r 0 + 1) 0 (omega (arith, v.long))

  counts_other : (o : ℕ) → (o ≡ r → ⊥) → get_or counts_after o 0 ≡ get_or ns o 0
  counts_other o n = get_or-set_other ns r o (get_or ns r 0 + 1) 0 n

  counts_done : (o : ℕ) → Dec (o ≡ r) → get_or counts_after o 0 ≡ count (take k h ++ r ∷ []) o
  counts_done o (yes e) = rw (e, counts_same, count_snoc (take k h) r r, eq-eqb r r refl) (omega (arith, v.counts r))
  counts_done o (no n) = rw (counts_other o n, count_snoc (take k h) r o, ne_eqb r o (λ e. n (sym e))) (v.counts o)

  within_done : (o : ℕ) → Dec (o ≡ r) → get_or counts_after o 0 ≤ get_or ls o 0
  within_done o (yes e) = rw (e, counts_same) (omega (arith, left))
  within_done o (no n) = rw (counts_other o n) (v.within o)

  pub history_more : HistoryValid ls counts_after (set h k r) (k + 1)
  history_more = record {
    history = column_set step_limit run_limit k h k r (k + 1) v.history (omega arith) (omega arith) low;
    long = simp length-set v.long;
    total = sum_set ns r (omega (arith, v.long)) ∙ omega (arith, v.total);
    counts = λ o. rw history_done (counts_done o (ℕ_discrete o r));
    within = λ o. within_done o (ℕ_discrete o r);
  }

abbrev pub with_done : Book → ℕ → Book
with_done b r = set_history b (set b.counts r (get_or b.counts r 0 + 1)) (set b.history b.done r) (b.done + 1)

module _ (b : Book) (r : ℕ) (v : Valid b) (m : RoomDone b.lengths b.counts b.declared r) where
  pub done_below_steps : b.done < b.total
  done_below_steps = count_below b.lengths b.steps b.counts b.history b.declared b.total b.done v.runs v.history r m.left

  run_low : r < run_limit
  run_low = omega (arith, m.declared, v.runs.few_runs)

  place_low : b.done < step_limit
  place_low = omega (arith, done_below_steps, v.runs.few_steps)

  pub represents_done : Represents (effect (done r) (contents_of b)) (with_done b r)
  unfolding contents_of
  represents_done = record {
    contents = rw (history_done b.lengths b.counts b.history b.done r v.history run_low place_low m.left);
    valid = valid_history b _ _ _ v (history_more b.lengths b.counts b.history b.done r v.history run_low place_low m.left);
  }
