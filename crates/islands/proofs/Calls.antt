-- A book's islands, an island's history and its judgement, from what is found of the book that was read.
use Rattle.std.specs.Prelude.{Result, Ok, Err}
use Rattle.std.specs.Result.{IsErrAnd}
use Prim.Native.Nat.{ℕ, zero, suc, ◌-◌, ◌≤◌, ◌<◌}
use native.Mathlib.Omega.{arith}
use mathlib.Core.Path.{◌≡◌, refl, sym, ap, ◌∙◌, subst}
use mathlib.Core.Bool.{Bool, true, false, not}
use borrow.Author.Tests.{not-true, not-false}
use mathlib.Core.List.{List, [], ◌∷◌}
use lib.ListN.{length, get_or, take, replicate}
use lib.Dec.{eqb}
use Rattle.theory.specs.History.{run, project}
use Rattle.theory.specs.Answers.{Answers}
use Rattle.theory.proofs.Answered.{refute}
use Rattle.theory.proofs.Within.{project_agree}
use Rattle.book.specs.Format.{Contents, accepted, run_limit, step_limit, read, with_history}
use Rattle.book.specs.Meaning.{conflict_of, unit_of}
use Rattle.book.specs.Book.{refusal_at, unflagged, contents_of, Valid, Represents, AcceptedAs}
use Rattle.book.specs.declared.Book.{Book}
use Rattle.book.specs.declared.Refusal.{Refusal}
use Rattle.book.specs.declared.Cause.TheVariants.{NoIsland}
use Rattle.book.proofs.Refusals.{passed_on}
use Rattle.book.proofs.Books.{runs_are, history_long}
use Rattle.judge.specs.Judged.{JudgeAnswer, JudgedAs}
use Rattle.judge.specs.Judge.{OutcomeJudged}
use Rattle.judge.specs.declared.Judgement.{Judgement}
use Rattle.judge.proofs.Bytes.{refused_as}
use Rattle.islands.specs.Islands.{island_book, padded, island_list, IslandsFound, IslandsListed, island_steps, HistoryFound, PartJudged}
use Rattle.islands.specs.Inner.Names.{name_in, BookNames, HasOwnName, OthersFlagged, OutsideFlagged, NoIslandOf, OutsideFound}
use Rattle.islands.specs.declared.IslandList.{IslandList}
use Rattle.islands.specs.declared.IslandSteps.{IslandSteps}
use Rattle.islands.proofs.Naming.{declared_few, book_run, name_inside}

-- ---- the book with an island's history

others_left : (b : Book) → Valid b → (t : List ℕ) → BookNames b t → (m : ℕ) (flags : List ℕ) → OthersFlagged t m flags
    → with_history (contents_of b) (project (unflagged flags) (contents_of b).history) ≡ island_book (contents_of b) (name_in t) m
others_left b v t n m flags f = ap (with_history (contents_of b)) (project_agree (unflagged flags) (λ k. eqb (name_in t k) m) (contents_of b).history agree)
  where
    agree : (p : ℕ) → p < length (contents_of b).history → unflagged flags (run (contents_of b).history p) ≡ eqb (name_in t (run (contents_of b).history p)) m
    agree p i =
        let k : run (contents_of b).history p < run_limit = omega (arith, book_run b v p i, declared_few b v) in
        f.at (run (contents_of b).history p) k ∙ ap (λ (x : ℕ). eqb x m) (sym (name_inside t (run (contents_of b).history p) n.long k))

-- ---- a history in its array

zeros : (l : List ℕ) → ((i : ℕ) → get_or l i 0 ≡ 0) → l ≡ replicate (length l) 0
zeros [] z = refl
zeros (x ∷ l) z = rw (z 0) (ap (λ (k : List ℕ). 0 ∷ k) (zeros l (λ i. z (suc i))))

front_padded : (l : List ℕ) (k n : ℕ) → length l ≡ n → ((i : ℕ) → k ≤ i → get_or l i 0 ≡ 0) → l ≡ padded n (take k l)
front_padded [] zero n e z = let f : n - 0 ≡ 0 = omega arith in rw f
front_padded [] (suc k) n e z = let f : n - 0 ≡ 0 = omega arith in rw f
front_padded (x ∷ l) zero n e z = let f : n - 0 ≡ suc (length l) = omega arith in rw f (zeros (x ∷ l) (λ i. z i (omega arith)))
front_padded (x ∷ l) (suc k) n e z =
    let f : n - suc (length (take k l)) ≡ length l - length (take k l) = omega arith in
    rw f (ap (λ (m : List ℕ). x ∷ m) (front_padded l k (length l) refl (λ i h. z (suc i) (omega arith))))

-- a valid book's array of its history
history_padded : (b : Book) → Valid b → b.history ≡ padded step_limit (contents_of b).history
unfolding contents_of
history_padded b v = front_padded b.history b.done step_limit v.history.history.long v.history.history.blank

-- ---- whether a run is an island's smallest

module _ (b : Book) (v : Valid b) (t : List ℕ) (n : BookNames b t) (m : ℕ) (a : Bool) (w : Answers (HasOwnName t b.declared m) a) where
  abbrev c : Contents
  c = contents_of b

  pub outside_flagged : not a ≡ false → (flags : List ℕ) → OthersFlagged t m flags → OutsideFlagged c m flags
  outside_flagged e flags f =
      let h = w.sound (not-false a e) in
      record {
        name = name_in t;
        islands = n.components;
        smallest = record { declared = omega (arith, h.below, runs_are b v); own = h.own };
        left = others_left b v t n m flags f;
      }

  pub no_island : not a ≡ true → (r : Result (List ℕ) Refusal) → r ≡ Err (refusal_at NoIsland 0) → OutsideFound c m r
  no_island e r q = rw q (record {
    name = name_in t;
    islands = n.components;
    not_smallest = λ s. refute w (not-true a e) (record { below = omega (arith, s.declared, runs_are b v); own = s.own });
    is = refl;
  })

-- ---- the history of the book with an island's steps, and its judgement

module _ (c : Contents) (m : ℕ) where
  module _ (flags : List ℕ) (k : OutsideFlagged c m flags) (part : Book) (w : Represents (with_history c (project (unflagged flags) c.history)) part) where
    left : contents_of part ≡ island_book c k.name m
    left = w.contents ∙ k.left

    pub steps_found : HistoryFound c m (Ok (record { history = part.history; count = part.done }))
    steps_found = record {
      name = k.name;
      islands = k.islands;
      found = λ s. ap Ok here;
      no_island = λ f. absurd (f k.smallest);
    }
      where
        is : (contents_of part).history ≡ (island_book c k.name m).history
        is = ap (λ (d : Contents). d.history) left

        here : ◌≡◌ {A = IslandSteps} (record { history = part.history; count = part.done }) (island_steps (island_book c k.name m).history)
        here = rw (← is, ← history_padded part w.valid, history_long part w.valid)

    pub part_judged : (order order' cycle cycle' : List ℕ) → (r : Judgement)
        → JudgedAs (conflict_of (contents_of part)) (unit_of (contents_of part)) (contents_of part).history order order' cycle cycle' r.verdict r.count
        → PartJudged order order' cycle cycle' c m (Ok r)
    part_judged order order' cycle cycle' r j = record {
      name = k.name;
      islands = k.islands;
      found = λ s. subst (λ (d : Contents). OutcomeJudged order order' cycle cycle' (accepted d) (Ok r)) left j;
      no_island = λ f. absurd (f k.smallest);
    }

  module _ (e : Refusal) (k : NoIslandOf c m e) where
    pub steps_none : (r : Result IslandSteps Refusal) → IsErrAnd r (λ x. x ≡ e) → HistoryFound c m r
    steps_none r h = record { name = k.name; islands = k.islands; found = λ s. absurd (k.not_smallest s); no_island = λ f. passed_on r e h ∙ ap Err k.is }

    pub part_none : (order cycle : List ℕ) (r : JudgeAnswer) → IsErrAnd r (λ x. x ≡ e) → PartJudged order order cycle cycle c m r
    part_none order cycle r h = record {
      name = k.name;
      islands = k.islands;
      found = λ s. absurd (k.not_smallest s);
      no_island = λ f. rw (passed_on r e h ∙ ap Err k.is) (refused_as order cycle NoIsland 0);
    }

-- ---- of bytes

module _ (s : List ℕ) (b : Book) (h : AcceptedAs (read s) b) where
  pub islands_accepted : (t : List ℕ) → BookNames b t → (r : IslandList) → r ≡ island_list (name_in t) b.declared → IslandsListed s (Ok r)
  islands_accepted t n r q = record { listed = rw h.outcome found }
    where
      found : IslandsFound (contents_of b) (Ok r)
      found = record { name = name_in t; islands = n.components; is = ap Ok (q ∙ ap (island_list (name_in t)) (sym (runs_are b h.valid))) }
