-- Ordinals and places of a history, one place at a time.
use Prim.Native.Nat.{ℕ, suc, ◌+◌, ◌*◌, ◌≤◌, ◌<◌}
use native.Mathlib.Numerals.{add-one}
use native.Mathlib.Decide.{ℕ_discrete}
use native.Mathlib.Omega.{arith}
use mathlib.Core.Path.{◌≡◌, sym, ap, ◌∙◌}
use mathlib.Core.Logic.{◌⊎◌, inl, inr}
use mathlib.Core.List.{List}
use mir.Val.{Fits}
use mir.Syntax.{w8}
use lib.ListN.{length, get_or, take, set}
use lib.Seq.{get_or-set_same, get_or-set_other}
use Rattle.theory.specs.History.{count, run, ordinal}
use Rattle.theory.specs.Inner.Places.{place_of}
use Rattle.theory.proofs.Lists.{count_take_lt, count_take_ne, count_take_le}
use Rattle.theory.proofs.Places.{place_of_back}
use Rattle.book.specs.Format.{run_limit, run_step_limit, step_limit}
use Rattle.dependence.specs.Inner.Tables.{HistoryOf}
use Rattle.graph.specs.Inner.Tables.{places_size}
use Rattle.dependence.proofs.Counting.{below_next, history_length, history_run}

-- the places below p are numbered, and counts has how many there are of each run
pub record NumberedBelow (h ordinals places counts : List ℕ) (n p : ℕ) : Type 0 where
  pub within : p ≤ n
  pub ordinals_are : (k : ℕ) → k < p → get_or ordinals k 0 ≡ ordinal h k
  pub places_are : (r i : ℕ) → r < run_limit → i < count (take p h) r → get_or places (r * run_step_limit + i) 0 ≡ place_of h r i
  pub counts_are : (r : ℕ) → r < run_limit → get_or counts r 0 ≡ count (take p h) r

module _ (history ordinals places counts : List ℕ) (n p : ℕ) (hs : HistoryOf history n) (w : NumberedBelow (take n history) ordinals places counts n p) (i : p < n)
    (r c : ℕ) (er : r ≡ get_or history p 0) (ec : c ≡ get_or counts r 0) where
  inside : p < length (take n history)
  inside = rw (history_length hs) i

  small : r < run_limit
  small = rw er (hs.runs.small p)

  is_run : run (take n history) p ≡ r
  is_run = history_run history n p i ∙ sym er

  is_count : c ≡ count (take p (take n history)) r
  is_count = ec ∙ w.counts_are r small

  is_ordinal : c ≡ ordinal (take n history) p
  unfolding ordinal
  is_ordinal = is_count ∙ ap (count (take p (take n history))) (sym is_run)

  next_count : count (take (suc p) (take n history)) r ≡ suc c
  next_count = sym (count_take_lt (take n history) r p inside is_run) ∙ ap suc (sym is_count)

  below : c < run_step_limit
  below = omega (arith, next_count, count_take_le (take n history) r (suc p), hs.few r)

  pub number_fits : Fits w8 (c + 1)
  number_fits = record { fits = omega (arith, below) }

  module _ (j : ℕ) (ej : j ≡ c) where
    pub number_index : r * run_step_limit + j < places_size
    number_index = rw ej (omega (arith, below, small))

    pub number_more : length ordinals ≡ step_limit → length places ≡ places_size → length counts ≡ run_limit
        → NumberedBelow (take n history) (set ordinals p c) (set places (r * run_step_limit + j) p) (set counts r (c + 1)) n (p + 1)
    number_more lo lp lc = rw ej (record {
      within = omega arith;
      ordinals_are = λ k l. ordinals_at k (below_next k p l);
      places_are = λ r' i' h' l. places_at r' i' h' (rw (add-one p) at l) (ℕ_discrete r' r);
      counts_are = λ r' h'. rw (add-one p) (counts_at r' h' (ℕ_discrete r' r));
    })
      where
        ordinals_at : (k : ℕ) → (k ≡ p) ⊎ (k < p) → get_or (set ordinals p c) k 0 ≡ ordinal (take n history) k
        ordinals_at k (inl e) = rw e (get_or-set_same ordinals p c 0 (omega (arith, hs.within)) ∙ is_ordinal)
        ordinals_at k (inr l) = get_or-set_other ordinals p k c 0 (λ e. omega arith) ∙ w.ordinals_are k l

        counts_at : (r' : ℕ) → r' < run_limit → Dec (r' ≡ r) → get_or (set counts r (c + 1)) r' 0 ≡ count (take (suc p) (take n history)) r'
        counts_at r' h' (yes e) = rw e (get_or-set_same counts r (c + 1) 0 (omega (arith, small)) ∙ add-one c ∙ sym next_count)
        counts_at r' h' (no m) = get_or-set_other counts r r' (c + 1) 0 m ∙ w.counts_are r' h' ∙ sym (count_take_ne (take n history) r' p (λ e. m (sym e ∙ is_run)))

        old : (r' i' : ℕ) → r' < run_limit → i' < count (take p (take n history)) r' → (r' * run_step_limit + i' ≡ r * run_step_limit + c → ⊥)
            → get_or (set places (r * run_step_limit + c) p) (r' * run_step_limit + i') 0 ≡ place_of (take n history) r' i'
        old r' i' h' l d = get_or-set_other places (r * run_step_limit + c) (r' * run_step_limit + i') p 0 d ∙ w.places_are r' i' h' l

        here : p ≡ place_of (take n history) r c
        here = sym (ap (λ (x : ℕ). place_of (take n history) x c) (sym is_run) ∙ ap (place_of (take n history) (run (take n history) p)) is_ordinal ∙ place_of_back (take n history) p inside)

        own_at : (i' : ℕ) → (i' ≡ c) ⊎ (i' < c) → get_or (set places (r * run_step_limit + c) p) (r * run_step_limit + i') 0 ≡ place_of (take n history) r i'
        own_at i' (inl e) = rw e (get_or-set_same places (r * run_step_limit + c) p 0 (omega (arith, below, small)) ∙ here)
        own_at i' (inr l) = old r i' small (omega (arith, is_count)) (λ e. omega arith)

        places_at : (r' i' : ℕ) → r' < run_limit → i' < count (take (suc p) (take n history)) r' → Dec (r' ≡ r) → get_or (set places (r * run_step_limit + c) p) (r' * run_step_limit + i') 0 ≡ place_of (take n history) r' i'
        places_at r' i' h' l (yes e) = let l' : i' < count (take (suc p) (take n history)) r = rw e at l in rw e (own_at i' (below_next i' c (omega (arith, next_count))))
        places_at r' i' h' l (no m) =
            let l' : i' < count (take p (take n history)) r' = rw (← count_take_ne (take n history) r' p (λ e. m (sym e ∙ is_run))) l in
            old r' i' h' l' (λ e. m (omega (arith, below, count_take_le (take n history) r' p, hs.few r')))
