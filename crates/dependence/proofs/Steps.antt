-- The steps of a history in the table of a book's steps, one by one.
use Prim.Native.Nat.{ℕ, suc, ◌+◌, ◌-◌, ◌≤◌, ◌<◌}
use native.Mathlib.Numerals.{add-one}
use native.Mathlib.Decide.{ℕ_discrete}
use native.Mathlib.Omega.{arith}
use mathlib.Core.Path.{◌≡◌, refl, sym, ap, ◌∙◌}
use mathlib.Core.Logic.{◌⊎◌, inl, inr}
use mathlib.Core.List.{List, [], ◌∷◌, ◌++◌}
use mir.Val.{Fits}
use mir.Syntax.{w8}
use lib.ListN.{length, get_or, take, set, length-set}
use lib.Seq.{get_or-set_same, get_or-set_other, length-take-le}
use Rattle.theory.specs.Lists.{sum}
use Rattle.book.specs.Format.{run_limit, step_limit}
use Rattle.book.specs.Book.{as_step, pairs_of}
use Rattle.book.specs.declared.Step.{Step as StepValue}
use Rattle.theory.specs.History.{count, run, ordinal}
use Rattle.theory.proofs.Lists.{count_take_lt, count_take_ne, count_take_le, take_last, sum_take, sum_take_le}
use Rattle.theory.specs.Deck.{Step, step_of}
use Rattle.dependence.specs.Dependence.{StepsRead, StepRead}
use Rattle.dependence.specs.Inner.Tables.{HistoryOf, Starts, RunsRoom, StepsOf, step_in, StepAt, NextTaken}
use Rattle.dependence.specs.Inner.Reading.{StepsLinked, StepLinked}
use Rattle.dependence.proofs.Counting.{below_next, history_length, history_run}

-- ---- where each run's steps begin

-- the starts of the first r runs, and s the next
pub record StartsBelow (lengths t : List ℕ) (s r : ℕ) : Type 0 where
  pub next : s ≡ sum (take r lengths)
  pub are : (k : ℕ) → k < r → get_or t k 0 ≡ sum (take k lengths)

module _ (lengths t : List ℕ) (s r : ℕ) (w : StartsBelow lengths t s r) where
  pub starts_fit : sum lengths ≤ step_limit → Fits w8 (s + get_or lengths r 0)
  starts_fit h = record { fits = omega (arith, w.next, sum_take lengths r, sum_take_le lengths (suc r)) }

  pub starts_more : r < run_limit → length t ≡ run_limit → StartsBelow lengths (set t r s) (s + get_or lengths r 0) (r + 1)
  starts_more i l = record { next = rw (add-one r) (omega (arith, w.next, sum_take lengths r)); are = λ k j. at k (below_next k r j) }
    where
      at : (k : ℕ) → (k ≡ r) ⊎ (k < r) → get_or (set t r s) k 0 ≡ sum (take k lengths)
      at k (inl e) = rw e (get_or-set_same t r s 0 (omega arith) ∙ w.next)
      at k (inr j) = get_or-set_other t r k s 0 (λ e. omega arith) ∙ w.are k j

-- ---- step by step

-- next has the step of each run that comes after its steps at the places below p
pub record NextSteps (h starts next : List ℕ) (p : ℕ) : Type 0 where
  pub at : (r : ℕ) → r < run_limit → get_or next r 0 ≡ get_or starts r 0 + count (take p h) r

-- before each turn: next, and what holds of the tables after the first q steps, in any runs whose steps have these codes
pub record UpTo (P : List (List Step) → List ℕ → Type 0) (h lengths starts steps next : List ℕ) (n q : ℕ) : Type 0 where
  pub within : q ≤ n
  pub starts_are : Starts lengths starts
  pub room : RunsRoom h lengths
  pub size : length next ≡ run_limit
  pub next_are : NextSteps h starts next q
  pub read : (runs : List (List Step)) → StepsOf runs h lengths steps → P runs (take q h)

-- the dependence table, and the rows of the runs
abbrev pub ReadUpTo : List ℕ → List ℕ → List ℕ → List ℕ → List ℕ → List ℕ → List ℕ → List ℕ → List ℕ → ℕ → ℕ → Type 0
ReadUpTo pairs h lengths starts steps next catalogue seconds dep n q = UpTo (λ runs l. StepsRead (pairs_of pairs) runs l catalogue seconds dep) h lengths starts steps next n q

abbrev pub LinkedUpTo : List ℕ → List ℕ → List ℕ → List ℕ → List ℕ → List ℕ → List ℕ → List ℕ → List ℕ → ℕ → ℕ → Type 0
LinkedUpTo pairs h lengths starts steps next catalogue seconds links n q = UpTo (λ runs l. StepsLinked (pairs_of pairs) runs l catalogue seconds links) h lengths starts steps next n q

next_taken : (l : List ℕ) (q : ℕ) → q < length l → take (q + 1) l ≡ take q l ++ get_or l q 0 ∷ []
next_taken l q i = let e : q + 1 - 1 ≡ q = omega arith in rw e at (take_last l (q + 1) (omega arith) (omega arith))

module _ (P : List (List Step) → List ℕ → Type 0) (history lengths starts steps next : List ℕ) (n q : ℕ) (hs : HistoryOf history n)
    (w : UpTo P (take n history) lengths starts steps next n q) (i : q < n) (r c : ℕ) (er : r ≡ get_or history q 0) (ec : c ≡ get_or next r 0) where
  inside : q < length (take n history)
  inside = rw (history_length hs) i

  is_run : run (take n history) q ≡ r
  is_run = history_run history n q i ∙ sym er

  small : r < run_limit
  small = rw er (hs.runs.small q)

  is_step : c ≡ get_or starts r 0 + count (take q (take n history)) r
  is_step = ec ∙ w.next_are.at r small

  is_start : get_or starts r 0 ≡ sum (take r lengths)
  is_start = w.starts_are.are r small

  counted : count (take (suc q) (take n history)) r ≡ suc (count (take q (take n history)) r)
  counted = sym (count_take_lt (take n history) r q inside is_run)

  step_inside : c < step_limit
  step_inside =
      omega (arith, is_step, is_start, counted, count_take_le (take n history) r (suc q), w.room.within r, w.room.total, sum_take lengths r, sum_take_le lengths (suc r))

  module _ (s : ℕ) (es : s ≡ c) where
    more_up_to : (Q : List (List Step) → List ℕ → Type 0) (x : StepValue) → StepAt steps s x
        → ((runs : List (List Step)) (h : List ℕ) → length h ≡ q → step_of runs r (count h r) ≡ as_step x → P runs h → Q runs (h ++ r ∷ []))
        → UpTo Q (take n history) lengths starts steps (set next r (c + 1)) n (q + 1)
    unfolding ordinal
    more_up_to Q x ex t = record {
      within = omega arith;
      starts_are = w.starts_are;
      room = w.room;
      size = length-set next r (c + 1) ∙ w.size;
      next_are = record { at = λ k hk. rw (add-one q) (next_at k hk (ℕ_discrete k r)) };
      read = λ runs o. rw (next_taken (take n history) q inside, is_run) (t runs (take q (take n history)) long (is_next runs o) (w.read runs o));
    }
      where
        long : length (take q (take n history)) ≡ q
        long = length-take-le q (take n history) (omega (arith, inside))

        is_next : (runs : List (List Step)) → StepsOf runs (take n history) lengths steps → step_of runs r (count (take q (take n history)) r) ≡ as_step x
        is_next runs o = (rw is_run at (o.at q inside)) ∙ ap (step_in steps) (ap (λ (a : ℕ). a + count (take q (take n history)) r) (sym is_start) ∙ sym is_step ∙ sym es) ∙ sym ex.is

        next_at : (k : ℕ) → k < run_limit → Dec (k ≡ r) → get_or (set next r (c + 1)) k 0 ≡ get_or starts k 0 + count (take (suc q) (take n history)) k
        next_at k hk (yes e) = rw e (get_or-set_same next r (c + 1) 0 (omega (arith, small, w.size)) ∙ omega (arith, is_step, counted))
        next_at k hk (no m) = get_or-set_other next r k (c + 1) 0 m ∙ w.next_are.at k hk ∙ ap (λ (x : ℕ). get_or starts k 0 + x) (sym (count_take_ne (take n history) k q (λ e. m (sym e ∙ is_run))))

-- what a step has left, and one step more
module _ (history lengths starts steps next : List ℕ) (n q : ℕ) (hs : HistoryOf history n) (i : q < n) where
  pub next_left : (P : List (List Step) → List ℕ → Type 0) → UpTo P (take n history) lengths starts steps next n q → get_or next (get_or history q 0) 0 < step_limit
  next_left P w = step_inside P history lengths starts steps next n q hs w i _ _ refl refl

  module _ (next' : List ℕ) (r : ℕ) (x : StepValue) (k : NextTaken history steps next next' q r x) (pairs catalogue seconds rows catalogue' seconds' rows' : List ℕ) where
    pub read_more : ReadUpTo pairs (take n history) lengths starts steps next catalogue seconds rows n q → StepRead pairs catalogue catalogue' seconds seconds' rows rows' q r (as_step x)
        → ReadUpTo pairs (take n history) lengths starts steps next' catalogue' seconds' rows' n (q + 1)
    read_more w t = rw k.one_more (more_up_to _ history lengths starts steps next n q hs w i r _ k.of_run.is refl _ refl _ x k.step t.read)

    pub links_more : LinkedUpTo pairs (take n history) lengths starts steps next catalogue seconds rows n q → StepLinked pairs catalogue catalogue' seconds seconds' rows rows' q r (as_step x)
        → LinkedUpTo pairs (take n history) lengths starts steps next' catalogue' seconds' rows' n (q + 1)
    links_more w t = rw k.one_more (more_up_to _ history lengths starts steps next n q hs w i r _ k.of_run.is refl _ refl _ x k.step t.read)
