-- A valid book's arrays say of its history's steps what its contents say: where the steps stand, and with them the conflicts.
use Prim.Native.Nat.{ℕ, zero, suc, ◌+◌, ◌≤◌, ◌<◌}
use native.Mathlib.Nat.{not-suc-le-zero, zero-add}
use native.Mathlib.Decide.{dec_le}
use native.Mathlib.Omega.{arith}
use mathlib.Core.Path.{◌≡◌, sym, ap, ◌∙◌}
use mathlib.Core.List.{List, [], ◌∷◌, map}
use lib.ListN.{length, get_or, take, drop, get_or-map}
use lib.Seq.{get_or-take, get_or-drop, take-take}
use Rattle.book.specs.declared.Book.{Book}
use Rattle.theory.specs.Lists.{sum}
use Rattle.book.specs.Book.{code_limit, step_coded, runs_of_lengths, contents_of, Valid}
use Rattle.book.specs.Meaning.{conflict_of}
use Rattle.book.proofs.Books.{done_within}
use Rattle.theory.specs.History.{count, run, ordinal}
use Rattle.theory.specs.Relative.{Depends}
use Rattle.theory.specs.Deck.{Step, no_step, step_of}
use Rattle.theory.proofs.Places.{ordinal_lt}
use Rattle.dependence.specs.Marks.{Marks}
use Rattle.dependence.specs.Inner.Tables.{Small, HistoryOf, Declared, RunsRoom, step_in, RunRows, RunLinked}
use Rattle.dependence.specs.Dependence.{StepsRead}
use Rattle.dependence.specs.Inner.Reading.{ReadFromCodes, StepsLinked, LinkedFromCodes}
use Rattle.dependence.proofs.Counting.{history_length, history_run}
use Rattle.dependence.proofs.Catalogue.{run_rows}
use Rattle.theory.proofs.Lists.{sum_take, sum_take_le, sum_front}

-- ---- steps

runs_get : (ns : List ℕ) (ss : List Step) (r i : ℕ) → i < get_or ns r 0 → step_of (runs_of_lengths ns ss) r i ≡ get_or ss (sum (take r ns) + i) no_step
runs_get [] ss r i h = absurd (not-suc-le-zero h)
runs_get (n ∷ ns) ss zero i h = get_or-take n ss i no_step h ∙ ap (λ (x : ℕ). get_or ss x no_step) (sym (zero-add i))
runs_get (n ∷ ns) ss (suc r) i h = runs_get ns (drop n ss) r i h ∙ get_or-drop n ss (sum (take r ns) + i) no_step ∙ ap (λ (x : ℕ). get_or ss x no_step) (omega arith)

-- ---- a valid book

module _ (b : Book) (v : Valid b) where
  abbrev h : List ℕ
  h = take b.done b.history

  abbrev ls : List ℕ
  ls = take b.declared b.lengths

  pub book_counts : (r : ℕ) → count h r ≤ get_or b.lengths r 0
  book_counts r = omega (arith, v.history.counts r, v.history.within r)

  pub book_history : HistoryOf b.history b.done
  book_history = record {
    long = v.history.history.long;
    within = done_within b v;
    runs = record { small = v.history.history.small };
    few = λ r. omega (arith, book_counts r, v.runs.lengths.small r);
  }

  pub book_steps : Small code_limit b.steps
  book_steps = record { small = v.runs.steps.small }

  pub book_room : RunsRoom h b.lengths
  book_room = record { total = omega (arith, sum_front b.declared b.lengths v.runs.lengths.blank, v.runs.total, v.runs.few_steps); within = book_counts }

  -- the step of a place, in the contents and in the arrays
  module _ (p : ℕ) (i : p < length h) where
    declared : run h p < b.declared
    declared = go (dec_le b.declared (run h p))
      where
        go : Dec (b.declared ≤ run h p) → run h p < b.declared
        go (no n) = omega arith
        go (yes l) = absurd (none (v.runs.lengths.blank (run h p) l))
          where
            none : get_or b.lengths (run h p) 0 ≡ 0 → ⊥
            none e = omega (arith, ordinal_lt h p i, book_counts (run h p))

    in_run : ordinal h p < get_or ls (run h p) 0
    in_run = rw (get_or-take b.declared b.lengths (run h p) 0 declared) (omega (arith, ordinal_lt h p i, book_counts (run h p)))

    start : sum (take (run h p) b.lengths) ≡ sum (take (run h p) ls)
    start = ap sum (sym (take-take (run h p) b.declared b.lengths (omega (arith, declared))))

    in_steps : sum (take (run h p) b.lengths) + ordinal h p < b.total
    in_steps = omega (arith, start, in_run, sum_take ls (run h p), sum_take_le ls (suc (run h p)), v.runs.total)

    pub step_is : step_of (contents_of b).runs (run h p) (ordinal h p) ≡ step_in b.steps (sum (take (run h p) b.lengths) + ordinal h p)
    unfolding contents_of
    step_is =
        runs_get ls (map step_coded (take b.total b.steps)) (run h p) (ordinal h p) in_run
        ∙ ap (λ (x : ℕ). get_or (map step_coded (take b.total b.steps)) (x + ordinal h p) no_step) (sym start)
        ∙ get_or-map step_coded (take b.total b.steps) (sum (take (run h p) b.lengths) + ordinal h p) 0
        ∙ ap step_coded (get_or-take b.total b.steps (sum (take (run h p) b.lengths) + ordinal h p) 0 in_steps)

  pub book_declared : Declared b.history b.done b.declared
  book_declared = record { few = v.runs.few_runs; declared = λ p i. rw (history_run b.history b.done p i) at (declared p (rw (history_length book_history) i)) }

  -- ---- dependence

  unfoldable pub book_read : (catalogue seconds dep : List ℕ) → ReadFromCodes b.pairs h b.lengths b.steps catalogue seconds dep
      → StepsRead (contents_of b).pairs (contents_of b).runs (contents_of b).history catalogue seconds dep
  unfolding contents_of
  book_read catalogue seconds dep r = r.read (contents_of b).runs (record { at = step_is })

  pub book_dependences : (catalogue seconds dep : List ℕ) → ReadFromCodes b.pairs h b.lengths b.steps catalogue seconds dep
      → Marks (Depends (conflict_of (contents_of b)) (contents_of b).history) dep
  book_dependences catalogue seconds dep r = (book_read catalogue seconds dep r).so_far

  pub book_run_rows : (catalogue seconds dep : List ℕ) → ReadFromCodes b.pairs h b.lengths b.steps catalogue seconds dep → RunRows h b.done catalogue
  unfolding contents_of
  book_run_rows catalogue seconds dep r = run_rows (contents_of b).pairs (contents_of b).runs h catalogue b.done (history_length book_history) (book_read catalogue seconds dep r).firsts_catalogued

  -- ---- direct dependence by runs

  linked_read : (catalogue seconds links : List ℕ) → LinkedFromCodes b.pairs h b.lengths b.steps catalogue seconds links
      → StepsLinked (contents_of b).pairs (contents_of b).runs (contents_of b).history catalogue seconds links
  unfolding contents_of
  linked_read catalogue seconds links r = r.read (contents_of b).runs (record { at = step_is })

  pub book_links : (catalogue seconds links : List ℕ) → LinkedFromCodes b.pairs h b.lengths b.steps catalogue seconds links
      → Marks (RunLinked (conflict_of (contents_of b)) (contents_of b).history) links
  book_links catalogue seconds links r = (linked_read catalogue seconds links r).rows_are

  pub linked_run_rows : (catalogue seconds links : List ℕ) → LinkedFromCodes b.pairs h b.lengths b.steps catalogue seconds links
      → RunRows (contents_of b).history b.done catalogue
  unfolding contents_of
  linked_run_rows catalogue seconds links r = run_rows (contents_of b).pairs (contents_of b).runs h catalogue b.done (history_length book_history) (linked_read catalogue seconds links r).firsts_catalogued
