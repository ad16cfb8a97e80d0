-- A book without the steps of some runs: the loop that fills the tables of the history with the others' steps, in their order. What is to be filled in is
-- the projection of the history, so that each step that stays is one more of WithHistory's loop over that list.
use Prim.Native.Nat.{ℕ, suc, ◌+◌, ◌≤◌, ◌<◌, zero-le}
use mathlib.Core.Path.{◌≡◌, refl, ap, sym, ◌∙◌}
use mathlib.Core.List.{List, [], ◌∷◌, ◌++◌}
use native.Mathlib.Omega.{arith}
use native.Mathlib.Numerals.{add-one}
use borrow.Author.Tests.{eq-eqb, ne_eqb}
use lib.ListN.{length, length-append, get_or, take, drop, set, replicate}
use lib.Seq.{take-suc, take_all, split_at, get_or_at}
use Rattle.theory.specs.History.{only, project}
use Rattle.theory.proofs.Within.{project_within, project_append}
use Rattle.book.specs.Format.{run_limit, step_limit, with_history, Allowed}
use Rattle.book.specs.Book.{set_history, unflagged, contents_of, Valid, Represents}
use Rattle.book.specs.declared.Book.{Book}
use Rattle.book.proofs.Books.{length_is, history_is, history_long, count_is}
use Rattle.book.proofs.WithHistory.{Filled, none_filled, filled_place, filled_more, all_filled}

module _ (b : Book) (flags : List ℕ) where
  -- the steps that stay, of the first i of the history and of all
  abbrev pub front : ℕ → List ℕ
  front i = project (unflagged flags) (take i (contents_of b).history)

  abbrev pub others : List ℕ
  others = project (unflagged flags) (contents_of b).history

  abbrev pub items : List ℕ
  items = take b.done b.history

  -- the first i of the history are gone through, and the tables hold the n of them that stay
  pub record LeftOut (ns h : List ℕ) (n i : ℕ) : Type 0 where
    pub within : i ≤ b.done
    pub place : length (front i) ≡ n
    pub filled : Filled b others ns h n

  pub none_left_out : LeftOut (replicate run_limit 0) (replicate step_limit 0) 0 0
  unfolding project
  none_left_out = record { within = zero-le; place = refl; filled = none_filled b others }

  module _ (v : Valid b) where
    others_allowed : Allowed others (contents_of b)
    others_allowed r = omega (arith, project_within (unflagged flags) (contents_of b).history r, count_is b v r, v.history.within r, length_is b v r)

    module _ (ns h : List ℕ) (n i r : ℕ) (w : LeftOut ns h n i) (l : i < length items) (e : r ≡ get_or items i 0) where
      run_is : get_or (contents_of b).history i 0 ≡ r
      run_is = ap (λ (k : List ℕ). get_or k i 0) (history_is b v) ∙ sym e

      inside : i < length (contents_of b).history
      inside = rw (history_is b v) l

      next_front : front (i + 1) ≡ front i ++ only (unflagged flags r) r []
      unfolding project
      next_front =
          ap front (add-one i) ∙ ap (project (unflagged flags)) (take-suc (contents_of b).history i 0 inside ∙ ap (λ (x : ℕ). take i (contents_of b).history ++ x ∷ []) run_is)
          ∙ project_append (unflagged flags) (take i (contents_of b).history) (r ∷ [])

      all_others : others ≡ front i ++ only (unflagged flags r) r (project (unflagged flags) (drop (suc i) (contents_of b).history))
      unfolding project
      all_others =
          ap (project (unflagged flags)) (split_at (contents_of b).history i 0 inside ∙ ap (λ (x : ℕ). take i (contents_of b).history ++ x ∷ drop (suc i) (contents_of b).history) run_is)
          ∙ project_append (unflagged flags) (take i (contents_of b).history) (r ∷ drop (suc i) (contents_of b).history)

      -- the step is left out
      pub one_left_out : (ns' h' : List ℕ) (n' : ℕ) → (get_or flags r 0 ≡ 0 → ⊥) → ns' ≡ ns → h' ≡ h → n' ≡ n → LeftOut ns' h' n' (i + 1)
      one_left_out ns' h' n' f p q s = rw (p, q, s) (record {
        within = omega (arith, inside, history_long b v);
        place = ap length next_front ∙ rw (ne_eqb (get_or flags r 0) 0 f) (omega (arith, length-append (front i) [], w.place));
        filled = w.filled;
      })

      -- the step stays
      module _ (f : get_or flags r 0 ≡ 0) where
        stays : others ≡ front i ++ r ∷ project (unflagged flags) (drop (suc i) (contents_of b).history)
        stays = rw (eq-eqb (get_or flags r 0) 0 f) at all_others

        next_place : n < length others
        next_place = rw stays (omega (arith, length-append (front i) (r ∷ project (unflagged flags) (drop (suc i) (contents_of b).history)), w.place))

        next_is : r ≡ get_or others n 0
        next_is = sym (ap (λ (k : List ℕ). get_or k n 0) stays ∙ get_or_at (front i) r _ 0 n w.place)

        pub stays_place : n < step_limit
        stays_place = filled_place b others ns h n r v others_allowed w.filled next_place next_is

        pub one_stays : (ns' h' : List ℕ) (n' : ℕ) → ns' ≡ set ns r (get_or ns r 0 + 1) → h' ≡ set h n (get_or items i 0) → n' ≡ n + 1 → LeftOut ns' h' n' (i + 1)
        one_stays ns' h' n' p q s = rw (p, q, s, ← e) (record {
          within = omega (arith, inside, history_long b v);
          place = ap length next_front ∙ rw (eq-eqb (get_or flags r 0) 0 f) (omega (arith, length-append (front i) (r ∷ []), w.place));
          filled = rw (← next_is) at (filled_more b others ns h n r v others_allowed w.filled next_place next_is);
        })

    module _ (ns h : List ℕ) (n i : ℕ) (w : LeftOut ns h n i) where
      pub all_left_out : length items ≤ i → Represents (with_history (contents_of b) others) (set_history b ns h n)
      all_left_out l =
          let all : length others ≡ n = ap (λ (k : List ℕ). length (project (unflagged flags) k)) (sym (take_all i (contents_of b).history (rw (history_is b v) l))) ∙ w.place in
          rw all at (all_filled b others ns h n v w.filled (omega arith))
