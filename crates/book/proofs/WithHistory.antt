-- A book with another history: the loop that fills the tables of the history, step after step of the list.
use Prim.Native.Nat.{ℕ, suc, ◌+◌, ◌≤◌, ◌<◌, zero-le}
use mathlib.Core.Path.{◌≡◌, refl, ap, sym, ◌∙◌}
use mathlib.Core.List.{List, [], ◌∷◌, ◌++◌}
use native.Mathlib.Omega.{arith}
use native.Mathlib.Numerals.{add-one}
use lib.ListN.{length, get_or, take, set, replicate}
use lib.Seq.{take-suc, take_all}
use native.Mathlib.Decide.{dec_le}
use Rattle.theory.specs.History.{count}
use Rattle.theory.proofs.Lists.{count_take_lt, count_take_le}
use Rattle.book.specs.Format.{run_limit, step_limit, with_history, Allowed}
use Rattle.book.specs.Book.{set_history, contents_of, HistoryValid, Valid, Represents}
use Rattle.book.specs.declared.Book.{Book}
use Rattle.book.proofs.Books.{length_is, valid_history, count_below, history_done, history_more}
use Rattle.book.proofs.Empty.{history_empty}

-- the first n of the list are the history so far
pub record Filled (b : Book) (list ns h : List ℕ) (n : ℕ) : Type 0 where
  pub within : n ≤ length list
  pub valid : HistoryValid b.lengths ns h n
  pub same : take n h ≡ take n list

pub none_filled : (b : Book) (list : List ℕ) → Filled b list (replicate run_limit 0) (replicate step_limit 0) 0
none_filled b list = record { within = zero-le; valid = history_empty b.lengths; same = refl }

module _ (b : Book) (list ns h : List ℕ) (n r : ℕ) (v : Valid b) (a : Allowed list (contents_of b)) (f : Filled b list ns h n) (l : n < length list) (e : r ≡ get_or list n 0) where
  counted : get_or ns r 0 < get_or b.lengths r 0
  counted = omega (arith, f.valid.counts r, ap (λ (k : List ℕ). count k r) f.same, count_take_lt list r n l (sym e), count_take_le list r (suc n), a r, length_is b v r)

  -- a run that is not declared has no steps
  pub filled_run : r < run_limit
  filled_run = go (dec_le b.declared r)
    where
      go : Dec (b.declared ≤ r) → r < run_limit
      go (yes d) = absurd (omega (arith, counted, v.runs.lengths.blank r d))
      go (no d) = omega (arith, d, v.runs.few_runs)

  pub filled_place : n < step_limit
  filled_place = omega (arith, count_below b.lengths b.steps ns h b.declared b.total n v.runs f.valid r counted, v.runs.few_steps)

  pub filled_more : Filled b list (set ns r (get_or ns r 0 + 1)) (set h n (get_or list n 0)) (n + 1)
  filled_more = record {
    within = omega arith;
    valid = rw (← e) (history_more b.lengths ns h n r f.valid filled_run filled_place counted);
    same = rw (← e) (history_done b.lengths ns h n r f.valid filled_run filled_place counted ∙ ap (λ (k : List ℕ). k ++ r ∷ []) f.same ∙ rw (add-one, take-suc list n 0 l, ← e));
  }

module _ (b : Book) (list ns h : List ℕ) (n : ℕ) (v : Valid b) (f : Filled b list ns h n) where
  pub all_filled : length list ≤ n → Represents (with_history (contents_of b) list) (set_history b ns h (length list))
  unfolding contents_of
  all_filled l = let all : length list ≡ n = omega (arith, f.within) in rw all (record {
    contents = rw (f.same, take_all n list l);
    valid = valid_history b _ _ _ v f.valid;
  })
