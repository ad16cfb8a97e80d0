-- A valid book is determined by what it means: two valid books of the same contents are equal in every byte.
use Prim.Native.Nat.{ℕ, suc, ◌+◌, ◌*◌, ◌≤◌}
use mathlib.Core.Path.{◌≡◌, refl, ap, ap₂, sym, ◌∙◌}
use mathlib.Core.List.{List, [], ◌∷◌, ◌++◌, map}
use native.Mathlib.Omega.{arith}
use native.Mathlib.Decide.{ℕ_discrete}
use borrow.Author.Tests.{eq-eqb, ne_eqb}
use lib.ListN.{length, get_or, take, drop, length-drop, take-append-drop}
use lib.Seq.{ext_get_or}
use Rattle.theory.specs.Lists.{sum}
use Rattle.theory.specs.History.{count}
use Rattle.theory.specs.Deck.{Pair, Step, Cut}
use Rattle.book.specs.Format.{kind_limit, run_limit, run_step_limit, step_limit, Contents, lengths}
use Rattle.book.specs.Book.{book_of_tables, run_cuts, code_limit, flagged, pair_of, cut_of, step_coded, runs_of_lengths, contents_of, Column, Valid}
use Rattle.book.specs.declared.Book.{Book}
use Rattle.theory.proofs.Lists.{get_or_front}
use Rattle.book.proofs.Codes.{code_of_step, code_back}
use Rattle.book.proofs.Books.{codes_long, lengths_are, runs_are, sum_is, history_is, history_long}

-- a list is known by its images under a map that can be turned back
map_back : {A : Type 0} (f : ℕ → A) (g : A → ℕ) → ((i : ℕ) → g (f i) ≡ i) → (xs : List ℕ) → map g (map f xs) ≡ xs
map_back f g h [] = refl
map_back f g h (x ∷ xs) = ap₂ (λ (a : ℕ) (l : List ℕ). a ∷ l) (h x) (map_back f g h xs)

-- flags are known by the flagged indices
flagged_from : (i k : ℕ) (xs l : List ℕ) → flagged i xs ≡ k ∷ l → i ≤ k
flagged_from i k [] l e = let z : ◌≡◌ {A = ℕ} 0 1 = cc in absurd (omega arith)
flagged_from i k (x ∷ xs) l e = go (flagged_from (suc i) k xs l) (ℕ_discrete x 0)
  where
    go : (flagged (suc i) xs ≡ k ∷ l → suc i ≤ k) → Dec (x ≡ 0) → i ≤ k
    go f (yes d) = omega (arith, f (rw (eq-eqb x 0 d) at e))
    go f (no d) = let q : i ∷ flagged (suc i) xs ≡ k ∷ l = rw (ne_eqb x 0 d) at e in let r : i ≡ k = cc in omega arith

pub flags_same : (i : ℕ) (xs ys : List ℕ) → length xs ≡ length ys → ((k : ℕ) → get_or xs k 0 ≤ 1) → ((k : ℕ) → get_or ys k 0 ≤ 1) → flagged i xs ≡ flagged i ys → xs ≡ ys
flags_same i [] [] e f g m = refl
flags_same i [] (y ∷ ys) e f g m = absurd (omega arith)
flags_same i (x ∷ xs) [] e f g m = absurd (omega arith)
flags_same i (x ∷ xs) (y ∷ ys) e f g m = go (flags_same (suc i) xs ys (omega arith) (λ k. f (suc k)) (λ k. g (suc k))) (ℕ_discrete x 0) (ℕ_discrete y 0)
  where
    go : (flagged (suc i) xs ≡ flagged (suc i) ys → xs ≡ ys) → Dec (x ≡ 0) → Dec (y ≡ 0) → x ∷ xs ≡ y ∷ ys
    go tails (yes p) (yes q) = ap₂ (λ (a : ℕ) (l : List ℕ). a ∷ l) (p ∙ sym q) (tails (rw (eq-eqb x 0 p, eq-eqb y 0 q) at m))
    go tails (yes p) (no q) = absurd (omega (arith, flagged_from (suc i) i xs (flagged (suc i) ys) (rw (eq-eqb x 0 p, ne_eqb y 0 q) at m)))
    go tails (no p) (yes q) = absurd (omega (arith, flagged_from (suc i) i ys (flagged (suc i) xs) (sym (rw (ne_eqb x 0 p, eq-eqb y 0 q) at m))))
    go tails (no p) (no q) =
        let n : i ∷ flagged (suc i) xs ≡ i ∷ flagged (suc i) ys = rw (ne_eqb x 0 p, ne_eqb y 0 q) at m in
        ap₂ (λ (a : ℕ) (l : List ℕ). a ∷ l) (omega (arith, f 0, g 0)) (tails (cc))

-- a column is known by its front
column_same : (n limit end : ℕ) (xs ys : List ℕ) → Column n limit end xs → Column n limit end ys → take end xs ≡ take end ys → xs ≡ ys
column_same n limit end xs ys v w e = ext_get_or 0 xs ys (v.long ∙ sym w.long)
    (λ i h. sym (get_or_front end xs v.blank i) ∙ ap (λ (l : List ℕ). get_or l i 0) e ∙ get_or_front end ys w.blank i)

-- runs put together again
joined : List (List Step) → List Step
joined [] = []
joined (r ∷ rs) = r ++ joined rs

joined_runs : (ns : List ℕ) (ss : List Step) → sum ns ≡ length ss → joined (runs_of_lengths ns ss) ≡ ss
unfolding joined
joined_runs [] [] h = refl
joined_runs [] (x ∷ ss) h = absurd (omega arith)
joined_runs (n ∷ ns) ss h = rw (joined_runs ns (drop n ss) (simp length-drop (omega arith))) (take-append-drop n ss)

-- each table of a valid book, from its contents
module _ (b : Book) (v : Valid b) where
  pairs_back : map (λ (p : Pair). p.a * kind_limit + p.b) (contents_of b).pairs ≡ flagged 0 b.pairs
  unfolding contents_of
  pairs_back = map_back pair_of (λ p. p.a * kind_limit + p.b) (λ i. omega arith) (flagged 0 b.pairs)

  cuts_back : map (λ (c : Cut). c.of_run * run_cuts + c.after * run_limit + c.seen_by) (contents_of b).cuts ≡ flagged 0 b.cuts
  unfolding contents_of
  cuts_back = map_back cut_of (λ c. c.of_run * run_cuts + c.after * run_limit + c.seen_by) (λ i. omega arith) (flagged 0 b.cuts)

  steps_back : map code_of_step (joined (contents_of b).runs) ≡ take b.total b.steps
  unfolding contents_of
  steps_back =
      ap (map code_of_step)
      (joined_runs (take b.declared b.lengths) (map step_coded (take b.total b.steps)) (v.runs.total ∙ sym (codes_long b.lengths b.steps b.declared b.total v.runs)))
      ∙ map_back step_coded code_of_step code_back (take b.total b.steps)

same_book : {ps ps' cs cs' ss ss' ls ls' ns ns' h h' : List ℕ} {d d' t t' k k' : ℕ} → ps ≡ ps' → cs ≡ cs' → ss ≡ ss' → ls ≡ ls' → ns ≡ ns' → h ≡ h' → d ≡ d' → t ≡ t' → k ≡ k'
    → book_of_tables ps cs ss ls ns h d t k ≡ book_of_tables ps' cs' ss' ls' ns' h' d' t' k'
same_book e₁ e₂ e₃ e₄ e₅ e₆ e₇ e₈ e₉ = rw (e₁, e₂, e₃, e₄, e₅, e₆, e₇, e₈, e₉)

module _ (a b : Book) (v : Valid a) (w : Valid b) (e : contents_of a ≡ contents_of b) where
  same_declared : a.declared ≡ b.declared
  same_declared = sym (runs_are a v) ∙ ap (λ (d : Contents). length d.runs) e ∙ runs_are b w

  same_total : a.total ≡ b.total
  same_total = sym (sum_is a v) ∙ ap (λ (d : Contents). sum (lengths d.runs)) e ∙ sum_is b w

  same_done : a.done ≡ b.done
  same_done = sym (history_long a v) ∙ ap (λ (d : Contents). length d.history) e ∙ history_long b w

  same_front : take a.done a.history ≡ take b.done b.history
  same_front = sym (history_is a v) ∙ ap (λ (d : Contents). d.history) e ∙ history_is b w

  same_pairs : a.pairs ≡ b.pairs
  same_pairs = flags_same 0 a.pairs b.pairs (v.pairs.long ∙ sym w.pairs.long) v.pairs.small w.pairs.small
      (sym (pairs_back a v) ∙ ap (λ (d : Contents). map (λ (p : Pair). p.a * kind_limit + p.b) d.pairs) e ∙ pairs_back b w)

  same_cuts : a.cuts ≡ b.cuts
  same_cuts = flags_same 0 a.cuts b.cuts (v.cuts.long ∙ sym w.cuts.long) v.cuts.small w.cuts.small
      (sym (cuts_back a v) ∙ ap (λ (d : Contents). map (λ (c : Cut). c.of_run * run_cuts + c.after * run_limit + c.seen_by) d.cuts) e ∙ cuts_back b w)

  same_steps : a.steps ≡ b.steps
  same_steps = column_same step_limit code_limit a.total a.steps b.steps v.runs.steps (rw same_total w.runs.steps)
      (sym (steps_back a v) ∙ ap (λ (d : Contents). map code_of_step (joined d.runs)) e ∙ steps_back b w ∙ rw same_total)

  same_lengths : a.lengths ≡ b.lengths
  same_lengths = column_same run_limit (suc run_step_limit) a.declared a.lengths b.lengths v.runs.lengths (rw same_declared w.runs.lengths)
      (sym (lengths_are a v) ∙ ap (λ (d : Contents). lengths d.runs) e ∙ lengths_are b w ∙ rw same_declared)

  same_history : a.history ≡ b.history
  same_history = column_same step_limit run_limit a.done a.history b.history v.history.history (rw same_done w.history.history) (same_front ∙ rw same_done)

  same_counts : a.counts ≡ b.counts
  same_counts = ext_get_or 0 a.counts b.counts (v.history.long ∙ sym w.history.long)
      (λ r h. v.history.counts r ∙ ap (λ (l : List ℕ). count l r) same_front ∙ sym (w.history.counts r))

  pub determined : a ≡ b
  determined = same_book same_pairs same_cuts same_steps same_lengths same_counts same_history same_declared same_total same_done
