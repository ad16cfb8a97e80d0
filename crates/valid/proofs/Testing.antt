-- What each test's answer says, group by group, up to the whole book.
use Prim.Native.Nat.{ℕ, zero, suc, ◌-◌, ◌≤◌, ◌<◌, zero-le}
use mathlib.Core.Path.{◌≡◌, refl, sym, ◌∙◌}
use mathlib.Core.List.{List}
use mathlib.Core.Bool.{Bool, ◌&&◌}
use native.Mathlib.Omega.{arith}
use native.Mathlib.Decide.{dec_le}
use borrow.Author.Tests.{ltb-true, leb-true, eqb-true, lt-ltb, le-leb, eq-eqb}
use lib.ListN.{get_or-eq_default, length, get_or, take}
use lib.Dec.{ltb, leb, eqb}
use Rattle.theory.specs.Lists.{sum}
use Rattle.theory.specs.History.{count}
use Rattle.theory.specs.Answers.{Answers}
use Rattle.theory.proofs.Lists.{sum_front, count_take_ne}
use Rattle.theory.proofs.Answered.{answer_both, answer_same}
use Rattle.book.specs.Format.{run_limit, run_step_limit, step_limit}
use Rattle.book.specs.Book.{pairs_size, cuts_size, code_limit, Flags, Column, RunsValid, Valid}
use Rattle.book.specs.declared.Book.{Book}
use Rattle.book.proofs.Books.{done_within}
use Rattle.valid.specs.Inner.Tables.{Largest, CountsValid, HistoryWithin}

-- ---- tests of numbers

lt_answers : (a b : ℕ) → Answers (a < b) (ltb a b)
lt_answers a b = record { sound = ltb-true a b; complete = lt-ltb a b }

le_answers : (a b : ℕ) → Answers (a ≤ b) (leb a b)
le_answers a b = record { sound = leb-true a b; complete = le-leb a b }

eq_answers : (a b : ℕ) → Answers (a ≡ b) (eqb a b)
eq_answers a b = record { sound = eqb-true a b; complete = eq-eqb a b }

-- ---- flags and columns, by their largest

pub flags_answer : (l : List ℕ) (m : ℕ) → Largest l 0 m → Answers (Flags (length l) l) (leb m 1)
flags_answer l m g = answer_same (λ h. record { long = refl; small = λ i. omega (arith, g.above i zero-le) }) (λ f. g.least 1 (λ i h. f.small i)) (le_answers m 1)

pub column_answer : (l : List ℕ) (limit end a b : ℕ) → Largest l 0 a → Largest l end b → Answers (Column (length l) limit end l) (ltb a limit && eqb b 0)
column_answer l limit end a b g k = answer_same
    (λ h. record { long = refl; small = λ i. omega (arith, g.above i zero-le, h.0); blank = λ i e. omega (arith, k.above i e, h.1) })
    (λ c. (omega (arith, g.least (limit - 1) (λ i h. omega (arith, c.small i)), c.small 0), omega (arith, k.least 0 (λ i e. omega (arith, c.blank i e)))))
    (answer_both _ _ (lt_answers a limit) (λ h. eq_answers b 0))

-- ---- runs_valid

module _ (ls ss : List ℕ) (d t s : ℕ) (p q : Bool) (long : length ls ≡ run_limit) (many : length ss ≡ step_limit) (adds : s ≡ sum ls) where
  total_answer : Column run_limit (suc run_step_limit) d ls → Answers (sum (take d ls) ≡ t) (eqb s t)
  total_answer c =
      let e : sum (take d ls) ≡ s = sum_front d ls c.blank ∙ sym adds in
      answer_same (λ h. e ∙ h) (λ h. sym e ∙ h) (eq_answers s t)

  pub runs_answer : Answers (Column (length ls) (suc run_step_limit) d ls) p → Answers (Column (length ss) code_limit t ss) q
      → Answers (RunsValid ls ss d t) (leb d run_limit && leb t step_limit && (p && q) && eqb s t)
  runs_answer x y = answer_same
      (λ h. record { lengths = h.0.1.0; steps = h.0.1.1; few_runs = h.0.0.0; few_steps = h.0.0.1; total = h.1 })
      (λ v. (((v.few_runs, v.few_steps), (v.lengths, v.steps)), v.total))
      (answer_both _ _ (answer_both _ _ (answer_both _ _ (le_answers d run_limit) (λ h. le_answers t step_limit)) (λ h. answer_both _ _ (rw long at x) (λ h. rw many at y))) (λ h. total_answer h.1.0))

-- ---- history_valid

-- a number that is above all of a list stands in no part of it
count_above : (l : List ℕ) (n r k : ℕ) → ((i : ℕ) → get_or l i 0 < n) → n ≤ r → count (take k l) r ≡ 0
count_above l n r zero f g = refl
count_above l n r (suc k) f g = count_take_ne l r k (λ e. omega (arith, f k)) ∙ count_above l n r k f g

module _ (ls ns h : List ℕ) (k : ℕ) where
  module _ (long : length ns ≡ run_limit) (c : Column step_limit run_limit k h) (v : CountsValid ls ns h k run_limit) where
    counts_are : (r : ℕ) → Dec (run_limit ≤ r) → get_or ns r 0 ≡ count (take k h) r
    counts_are r (yes l) = get_or-eq_default ns 0 (omega arith) ∙ sym (count_above h run_limit r k c.small l)
    counts_are r (no l) = v.counts r (omega arith)

    counts_within : (r : ℕ) → Dec (run_limit ≤ r) → get_or ns r 0 ≤ get_or ls r 0
    counts_within r (yes l) = let g : length ns ≤ r = omega arith in omega (arith, get_or-eq_default ns 0 g)
    counts_within r (no l) = v.within r (omega arith)

  pub history_answer : (s : ℕ) (p q : Bool) → k ≤ step_limit → length ns ≡ run_limit → length h ≡ step_limit → s ≡ sum ns
      → Answers (Column (length h) run_limit k h) p → Answers (CountsValid ls ns h k run_limit) q → Answers (HistoryWithin ls ns h k) (p && eqb s k && q)
  history_answer s p q few long room adds x y = answer_same
      (λ a. record {
        few = few;
        valid = record {
          history = a.0.0;
          long = long;
          total = sym adds ∙ a.0.1;
          counts = λ r. counts_are long a.0.0 a.1 r (dec_le run_limit r);
          within = λ r. counts_within long a.0.0 a.1 r (dec_le run_limit r);
        };
      })
      (λ v. ((v.valid.history, adds ∙ v.valid.total), record { counts = λ r l. v.valid.counts r; within = λ r l. v.valid.within r }))
      (answer_both _ _ (answer_both _ _ (rw room at x) (λ a. eq_answers s k)) (λ a. y))

-- ---- is_valid

pub valid_answer : (b : Book) (p q u w : Bool) → length b.pairs ≡ pairs_size → length b.cuts ≡ cuts_size
    → Answers (Flags (length b.pairs) b.pairs) p → Answers (Flags (length b.cuts) b.cuts) q → Answers (RunsValid b.lengths b.steps b.declared b.total) u
    → Answers (HistoryWithin b.lengths b.counts b.history b.done) w → Answers (Valid b) (p && q && u && w)
valid_answer b p q u w few many x y z a = answer_same
    (λ h. record { pairs = h.0.0.0; cuts = h.0.0.1; runs = h.0.1; history = h.1.valid })
    (λ v. (((v.pairs, v.cuts), v.runs), record { few = done_within b v; valid = v.history }))
    (answer_both _ _ (answer_both _ _ (answer_both _ _ (rw few at x) (λ h. rw many at y)) (λ h. z)) (λ h. a))
