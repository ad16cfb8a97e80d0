-- A valid book's arrays say of its history's steps what its contents say: units, and with these and dependence the arcs.
use Prim.Native.Nat.{ℕ, suc, ◌+◌, ◌*◌, ◌/◌, ◌%◌, ◌≤◌, ◌<◌, zero-le, suc-le-suc}
use native.Mathlib.Decide.{ℕ_discrete, dec_le}
use native.Mathlib.Omega.{arith}
use mathlib.Core.Path.{◌≡◌, refl, sym, ap, ◌∙◌}
use mathlib.Core.Logic.{inl, inr, ◌≢◌}
use mathlib.Core.Bool.{Bool, true, false, ◌&&◌, not}
use mathlib.Core.List.{List, [], ◌∷◌, map}
use lib.ListN.{length, get_or, take}
use lib.Dec.{eqb, leb}
use borrow.Author.Tests.{leb-true, le-leb, lt-leb, eq-eqb, ne_eqb}
use Rattle.book.specs.declared.Book.{Book}
use Rattle.book.specs.Format.{run_limit, run_step_limit}
use Rattle.book.specs.Book.{run_cuts, flagged, cut_of, contents_of, Valid}
use Rattle.book.specs.Meaning.{conflict_of, unit_of}
use Rattle.book.proofs.Groups.{count_flagged}
use Rattle.theory.specs.History.{suc_if, count}
use Rattle.theory.specs.Graph.{FirstOf, LastOf}
use Rattle.theory.specs.Deck.{Cut, unit}
use Rattle.theory.proofs.Places.{Compared, eq_cases}
use Rattle.dependence.specs.Inner.Reading.{ReadFromCodes}
use Rattle.dependence.specs.Inner.Tables.{HistoryOf, Declared, RunRows}
use Rattle.dependence.proofs.Counting.{history_length}
use Rattle.dependence.proofs.BookTables.{book_history, book_read}
use Rattle.graph.specs.Units.{UnchangedFrom, UnitTables}
use Rattle.graph.specs.Inner.Tables.{Counts, CutsOf, EachBy, TablesBy, TablesOf}
use Rattle.graph.specs.Inner.Arcs.{done, GraphOf}
use Rattle.graph.specs.declared.graph.Graph.{Graph}

-- ---- cuts

-- a unit's number rises with the ordinal
pub unit_rises : (cs : List Cut) (r o i j : ℕ) → i ≤ j → unit cs r o i ≤ unit cs r o j
unfolding unit
unit_rises [] r o i j l = zero-le
unit_rises (c ∷ cs) r o i j l = go (eqb c.of_run r) (eqb c.seen_by o) (dec_le c.after i) (unit_rises cs r o i j l)
  where
    step : (u v : Bool) {m n : ℕ} → (u ≡ true → v ≡ true) → m ≤ n → suc_if u m ≤ suc_if v n
    step true v f h = rw (f refl) (suc-le-suc h)
    step false true f h = omega arith
    step false false f h = h

    go : (a b : Bool) {m n : ℕ} → Dec (c.after ≤ i) → m ≤ n → suc_if (a && (b && leb c.after i)) m ≤ suc_if (a && (b && leb c.after j)) n
    go false b d h = h
    go true false d h = h
    go true true (yes k) h = step (leb c.after i) (leb c.after j) (λ e. le-leb c.after j (omega arith)) h
    go true true (no k) h = step (leb c.after i) (leb c.after j) (λ e. absurd (k (leb-true c.after i e))) h

-- one more step: the cuts that lie right before it are counted too
unit_next : (xs : List ℕ) (r o i : ℕ) → o < run_limit → suc i < run_step_limit → unit (map cut_of xs) r o (suc i) ≡ unit (map cut_of xs) r o i + count xs (r * run_cuts + suc i * run_limit + o)
unfolding unit
unit_next [] r o i ho hi = refl
unit_next (x ∷ xs) r o i ho hi = go (unit (map cut_of xs) r o (suc i)) (unit (map cut_of xs) r o i) (count xs (r * run_cuts + suc i * run_limit + o))
    (eq_cases (x / run_cuts) r) (eq_cases (x % run_limit) o) (ℕ_discrete (x % run_cuts / run_limit) (suc i)) (unit_next xs r o i ho hi)
  where
    -- the same cuts as before, and x is not the new one
    other : (m n k : ℕ) (u v : Bool) → u ≡ v → x ≢ r * run_cuts + suc i * run_limit + o → m ≡ n + k → suc_if u m ≡ suc_if v n + suc_if (eqb x (r * run_cuts + suc i * run_limit + o)) k
    other m n k true v e ne h = rw (ne_eqb x (r * run_cuts + suc i * run_limit + o) ne, ← e) (omega arith)
    other m n k false v e ne h = rw (ne_eqb x (r * run_cuts + suc i * run_limit + o) ne, ← e) h

    late : (a : ℕ) → a ≢ suc i → leb a (suc i) ≡ leb a i
    late a ne = by (dec_le a i)
      where
        by : Dec (a ≤ i) → leb a (suc i) ≡ leb a i
        by (yes l) = le-leb a (suc i) (omega arith) ∙ sym (le-leb a i l)
        by (no l) = lt-leb a (suc i) (omega arith) ∙ sym (lt-leb a i (omega arith))

    go : (m n k : ℕ) → Compared (x / run_cuts) r → Compared (x % run_limit) o → Dec (x % run_cuts / run_limit ≡ suc i) → m ≡ n + k
        → suc_if (eqb (x / run_cuts) r && (eqb (x % run_limit) o && leb (x % run_cuts / run_limit) (suc i))) m
        ≡ suc_if (eqb (x / run_cuts) r && (eqb (x % run_limit) o && leb (x % run_cuts / run_limit) i)) n + suc_if (eqb x (r * run_cuts + suc i * run_limit + o)) k
    go m n k (inr c) d f h = rw c.0 (other m n k false false refl (λ e. c.1 (omega arith)) h)
    go m n k (inl c) (inr d) f h = rw (c.0, d.0) (other m n k false false refl (λ e. d.1 (omega arith)) h)
    go m n k (inl c) (inl d) (no f) h = rw (c.0, d.0) (other m n k (leb (x % run_cuts / run_limit) (suc i)) (leb (x % run_cuts / run_limit) i) (late (x % run_cuts / run_limit) f) (λ e. f (omega arith)) h)
    go m n k (inl c) (inl d) (yes f) h =
        let e : eqb x (r * run_cuts + suc i * run_limit + o) ≡ true = eq-eqb x (r * run_cuts + suc i * run_limit + o) (omega (arith, c.1, d.1)) in
        rw (c.0, d.0, e, le-leb (x % run_cuts / run_limit) (suc i) (omega arith), lt-leb (x % run_cuts / run_limit) i (omega arith)) (omega arith)

pub cuts_of : (cuts : List ℕ) → CutsOf (unit (map cut_of (flagged 0 cuts))) cuts
cuts_of cuts = record {
  rises = unit_rises (map cut_of (flagged 0 cuts));
  uncut = λ r o i ho hi e. omega (arith, rw (eq-eqb (get_or cuts (r * run_cuts + suc i * run_limit + o) 0) 0 e) at (next r o i ho hi));
  cut = λ r o i ho hi n. omega (arith, rw (ne_eqb (get_or cuts (r * run_cuts + suc i * run_limit + o) 0) 0 n) at (next r o i ho hi));
}
  where
    next : (r o i : ℕ) → o < run_limit → suc i < run_step_limit
        → unit (map cut_of (flagged 0 cuts)) r o (suc i) ≡ unit (map cut_of (flagged 0 cuts)) r o i + suc_if (not (eqb (get_or cuts (r * run_cuts + suc i * run_limit + o) 0) 0)) 0
    next r o i ho hi = unit_next (flagged 0 cuts) r o i ho hi ∙ ap (λ (x : ℕ). unit (map cut_of (flagged 0 cuts)) r o i + x) (count_flagged cuts (r * run_cuts + suc i * run_limit + o))

-- ---- a graph of other tables than a book's

-- a history's runs are declared where all are, so that each history with its tables makes a graph
pub all_declared : (history : List ℕ) (n : ℕ) → HistoryOf history n → Declared history n run_limit
all_declared history n s = record { few = omega arith; declared = λ p i. s.runs.small p }

pub graph_with : (history : List ℕ) (n : ℕ) (catalogue dep firsts lasts : List ℕ) → HistoryOf history n → RunRows (take n history) n catalogue
    → TablesOf (take n history) dep firsts lasts → Graph
graph_with history n catalogue dep firsts lasts s r t = record {
  history = history;
  n = n;
  declared = run_limit;
  catalogue = catalogue;
  dep = dep;
  firsts = firsts;
  lasts = lasts;
  stored = s;
  runs = all_declared history n s;
  run_rows = r;
  tables = ∣ t ∣₁;
}

-- ---- a valid book

module _ (b : Book) (v : Valid b) where
  abbrev h : List ℕ
  h = take b.done b.history

  pub book_cuts : CutsOf (unit_of (contents_of b)) b.cuts
  unfolding contents_of
  book_cuts = cuts_of b.cuts

  pub book_counted : Counts h b.counts
  book_counted = record { are = λ r hr. v.history.counts r }

  pub book_units : (firsts firsts' lasts lasts' : List ℕ) → EachBy FirstOf b.cuts h 0 b.done firsts' → UnchangedFrom b.done firsts firsts'
      → EachBy LastOf b.cuts h 0 b.done lasts' → UnchangedFrom b.done lasts lasts' → UnitTables (unit_of (contents_of b)) (contents_of b).history firsts firsts' lasts lasts'
  unfolding contents_of
  book_units firsts firsts' lasts lasts' f fk l lk =
      let e : length h ≡ b.done = history_length (book_history b v) in
      record {
        firsts_are = rw e (f.of (unit_of (contents_of b)) book_cuts);
        firsts_unchanged = rw e fk;
        lasts_are = rw e (l.of (unit_of (contents_of b)) book_cuts);
        lasts_unchanged = rw e lk;
      }

  -- ---- arcs

  pub book_tables : (catalogue seconds dep firsts firsts' lasts lasts' : List ℕ) → ReadFromCodes b.pairs h b.lengths b.steps catalogue seconds dep
      → UnitTables (unit_of (contents_of b)) (contents_of b).history firsts firsts' lasts lasts'
      → TablesBy (conflict_of (contents_of b)) (unit_of (contents_of b)) h dep firsts' lasts'
  unfolding contents_of
  book_tables catalogue seconds dep firsts firsts' lasts lasts' d u = record {
    rises = book_cuts.rises;
    dep_marks = (book_read b v catalogue seconds dep d).so_far;
    firsts_are = u.firsts_are;
    lasts_are = u.lasts_are;
  }

  pub book_some_tables : (dep firsts lasts : List ℕ) → TablesBy (conflict_of (contents_of b)) (unit_of (contents_of b)) h dep firsts lasts → TablesOf h dep firsts lasts
  book_some_tables dep firsts lasts t = record { conflict = conflict_of (contents_of b); unit = unit_of (contents_of b); by = t }

  -- what a graph with these tables is
  pub book_graph : (g : Graph) → g.history ≡ b.history → g.n ≡ b.done → TablesBy (conflict_of (contents_of b)) (unit_of (contents_of b)) h g.dep g.firsts g.lasts
      → GraphOf (conflict_of (contents_of b)) (unit_of (contents_of b)) (contents_of b).history g
  unfolding contents_of
  book_graph g e k t =
      let z : done g ≡ h = cc in
      record { history_is = z; tables_are = rw z t }
