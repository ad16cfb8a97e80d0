-- The refusals of the calls on islands: those of the book, and 27 where the run is no island's smallest.
use Rattle.std.specs.Prelude.{Result, Ok, Err, ◌≢◌}
use Prim.Native.Nat.{ℕ, ◌≤◌, ◌<◌}
use native.Mathlib.Decide.{dec_lt}
use native.Mathlib.Omega.{arith}
use mathlib.Core.Path.{◌≡◌, refl, ap}
use mathlib.Core.List.{List}
use lib.ListN.{length}
use Rattle.theory.specs.Components.{Joined}
use Rattle.theory.proofs.Connected.{smallest_le}
use Rattle.book.specs.Format.{Contents, Outcome, refused, accepted, read}
use Rattle.book.specs.Numbers.{number, Numbers, refused_with, answer_numbers}
use Rattle.book.specs.Meaning.{conflict_of}
use Rattle.book.specs.declared.Cause.{Cause}
use Rattle.book.specs.declared.Cause.TheVariants.{NoIsland}
use Rattle.book.specs.declared.Refusal.{Refusal}
use Rattle.judge.specs.Judged.{JudgeAnswer, verdict_numbers, verdict_of, count_of}
use Rattle.islands.specs.Islands.{IslandsOf, Smallest, island_book, OutcomeListed, IslandsListed, OutcomeHistory, HistoryFound, IslandHistory, OutcomePart, PartJudged, IslandJudged}
use Rattle.islands.specs.declared.IslandList.{IslandList}
use Rattle.islands.specs.declared.IslandSteps.{IslandSteps}
use Rattle.capi.specs.Numbers.{listed_islands, listed_steps}
use Rattle.capi.specs.Calls.{IslandsCall, IslandHistoryCall}
use Rattle.capi.specs.declared.ListedIslands.{ListedIslands}
use Rattle.capi.specs.declared.ListedSteps.{ListedSteps}
use Rattle.table.specs.BookTable.{BookRow}
use Rattle.table.proofs.BookTable.{refused_row, row_single, accepted_no_row}
use Rattle.claims.specs.Table.{IslandRow, divided_book, no_run, smaller_run, IslandJudgeRow, island_order_short, island_cycle_short, judged_island}
use Rattle.claims.specs.Demands.{TurnsAway, BuffersUnchanged, island_numbers, step_numbers, WithoutIslands, WithoutSteps, Demand1OfIslands}
use Rattle.claims.proofs.IslandNames.{dec_smallest, one_contents}
use Rattle.claims.proofs.Turned.{turned, carried, without_value, same_rows, book_refused, book_accepted}
use Rattle.claims.proofs.JudgeRefusals.{JudgeRowBy, short_first, short_second, behind_12, by_buffers, buffers_unchanged, judged_carried}

-- ---- 27

module _ (s : List ℕ) (m : ℕ) (c : Contents) (e : read s ≡ accepted c) (name : ℕ → ℕ) (is : IslandsOf c name) where
  smaller : (k : ℕ) → k < m → Smallest c name m → name m ≤ k → ⊥
  smaller k l w h = omega (arith, w.own)

  no_row_of : Smallest c name m → (n at : ℕ) → ¬ IslandRow s m n at
  no_row_of w n at (divided_book x) = accepted_no_row s c e n at x
  no_row_of w n at (no_run d f l) = let z = one_contents s c d e f in let k : length c.runs ≤ m = rw z l in omega (arith, w.declared)
  no_row_of w n at (smaller_run d f k l x) = let z = one_contents s c d e f in smaller k l w ((is m).least k (rw z x))

  row_27 : ¬ Smallest c name m → IslandRow s m 27 0
  row_27 n = go (dec_lt m (length c.runs))
    where
      go : Dec (m < length c.runs) → IslandRow s m 27 0
      go (no l) = no_run c e (omega arith)
      go (yes l) =
          let other : ¬ (name m ≡ m) = λ w. n (record { declared = l; own = w }) in
          smaller_run c e (name m) (omega (arith, smallest_le (Joined (conflict_of c) c.history) (is m), other)) (is m).connected

  only_27 : (n at : ℕ) → IslandRow s m n at → (27 ≡ n) × (0 ≡ at)
  only_27 n at (divided_book x) = absurd (accepted_no_row s c e n at x)
  only_27 n at (no_run d f l) = (refl, refl)
  only_27 n at (smaller_run d f k l x) = (refl, refl)

  pub refused_27 : (U : Type 0) → ¬ Smallest c name m → U → TurnsAway (IslandRow s m) (refused_with NoIsland 0) U
  refused_27 U n u = turned (IslandRow s m) U (refused_with NoIsland 0) (row_27 n) refl u only_27

  pub carried_out : (U : Type 0) (n : Numbers) → n.number ≡ 0 → Smallest c name m → TurnsAway (IslandRow s m) n U
  carried_out U n z w = carried (IslandRow s m) U n z (no_row_of w)

-- a refused book has its own rows alone
pub book_rows : (s : List ℕ) (m : ℕ) (U : Type 0) (cause : Cause) (at : ℕ) → read s ≡ refused cause at → U → TurnsAway (IslandRow s m) (refused_with cause at) U
book_rows s m U cause at e u = turned (IslandRow s m) U (refused_with cause at) (divided_book row) refl u only
  where
    row : BookRow s (number cause) at
    row = refused_row s cause at e

    read_both : (c : Contents) → read s ≡ accepted c → ⊥
    read_both c f = let z : ◌≡◌ {A = ℕ} 0 1 = cc in omega arith

    only : (n p : ℕ) → IslandRow s m n p → (number cause ≡ n) × (at ≡ p)
    only n p (divided_book x) = row_single s (number cause) n at p row x
    only n p (no_run d f l) = absurd (read_both d f)
    only n p (smaller_run d f k l x) = absurd (read_both d f)

-- ---- the islands

-- an answer that is a refusal hands nothing back
not_ok : {A : Type 0} {r : Result A Refusal} {e : Refusal} → r ≡ Err e → (x : A) → r ≢ Ok x
not_ok e x f = let z : ◌≡◌ {A = ℕ} 0 1 = cc in omega arith

pub islands_turn : (s : List ℕ) (r : Result IslandList Refusal) → IslandsListed s r → TurnsAway (BookRow s) (answer_numbers r) ((x : IslandList) → r ≢ Ok x)
islands_turn s r h = go (read s) refl h.listed
  where
    go : (o : Outcome) → read s ≡ o → OutcomeListed o r → TurnsAway (BookRow s) (answer_numbers r) ((x : IslandList) → r ≢ Ok x)
    go (refused cause at) e w = rw (ap answer_numbers w) (book_refused s ((x : IslandList) → r ≢ Ok x) cause at e (not_ok w))
    go (accepted c) e w = book_accepted s ((x : IslandList) → r ≢ Ok x) c (answer_numbers r) e (ap (λ (x : Result IslandList Refusal). (answer_numbers x).number) w.is)

pub deck_islands_turn : (s : List ℕ) (r : ListedIslands) → IslandsCall s r → TurnsAway (BookRow s) (island_numbers r) (WithoutIslands r)
deck_islands_turn s r h = rw h.numbers (listed (without_value (BookRow s) ((x : IslandList) → h.islands ≢ Ok x) (answer_numbers h.islands) (islands_turn s h.islands h.promise)))
  where
    none : (x : Result IslandList Refusal) → ((y : IslandList) → x ≢ Ok y) → WithoutIslands (listed_islands x)
    none (Ok y) n = absurd (n y refl)
    none (Err refusal) n = refl

    listed : {n : Numbers} → TurnsAway (BookRow s) n ((x : IslandList) → h.islands ≢ Ok x) → TurnsAway (BookRow s) n (WithoutIslands (listed_islands h.islands))
    listed t = record { row = t.row; no_value = t.no_value; unchanged = λ z. none h.islands (t.unchanged z); refused_by = t.refused_by }

-- ---- an island's history

pub history_turns : (s : List ℕ) (m : ℕ) (r : Result IslandSteps Refusal) → IslandHistory s m r → TurnsAway (IslandRow s m) (answer_numbers r) ((x : IslandSteps) → r ≢ Ok x)
history_turns s m r h = go (read s) refl h.history
  where
    found : (c : Contents) → read s ≡ accepted c → (w : HistoryFound c m r) → Dec (Smallest c w.name m) → TurnsAway (IslandRow s m) (answer_numbers r) ((x : IslandSteps) → r ≢ Ok x)
    found c e w (yes k) = carried_out s m c e w.name w.islands ((x : IslandSteps) → r ≢ Ok x) (answer_numbers r) (ap (λ (x : Result IslandSteps Refusal). (answer_numbers x).number) (w.found k)) k
    found c e w (no k) = rw (ap answer_numbers (w.no_island k)) (refused_27 s m c e w.name w.islands ((x : IslandSteps) → r ≢ Ok x) k (not_ok (w.no_island k)))

    go : (o : Outcome) → read s ≡ o → OutcomeHistory o m r → TurnsAway (IslandRow s m) (answer_numbers r) ((x : IslandSteps) → r ≢ Ok x)
    go (refused cause at) e w = rw (ap answer_numbers w) (book_rows s m ((x : IslandSteps) → r ≢ Ok x) cause at e (not_ok w))
    go (accepted c) e w = found c e w (dec_smallest c w.name m)

pub deck_history_turns : (s : List ℕ) (m : ℕ) (r : ListedSteps) → IslandHistoryCall s m r → TurnsAway (IslandRow s m) (step_numbers r) (WithoutSteps r)
deck_history_turns s m r h = rw h.numbers (listed (without_value (IslandRow s m) ((x : IslandSteps) → h.steps ≢ Ok x) (answer_numbers h.steps) (history_turns s m h.steps h.promise)))
  where
    none : (x : Result IslandSteps Refusal) → ((y : IslandSteps) → x ≢ Ok y) → WithoutSteps (listed_steps x)
    none (Ok y) n = absurd (n y refl)
    none (Err refusal) n = refl

    listed : {n : Numbers} → TurnsAway (IslandRow s m) n ((x : IslandSteps) → h.steps ≢ Ok x) → TurnsAway (IslandRow s m) n (WithoutSteps (listed_steps h.steps))
    listed t = record { row = t.row; no_value = t.no_value; unchanged = λ z. none h.steps (t.unchanged z); refused_by = t.refused_by }

-- ---- an island judged

pub island_turns : (s : List ℕ) (m : ℕ) (order order' cycle cycle' : List ℕ) (r : JudgeAnswer) → IslandJudged order order' cycle cycle' s m r
    → TurnsAway (IslandJudgeRow s m order cycle) (verdict_numbers (verdict_of r)) (BuffersUnchanged order order' cycle cycle' (count_of r))
island_turns s m order order' cycle cycle' r j = same_rows to from (by_buffers (IslandRow s m) order order' cycle cycle' r j.short (λ a b. go (read s) refl (j.long a b)))
  where
    to : (k at : ℕ) → JudgeRowBy (IslandRow s m) order cycle k at → IslandJudgeRow s m order cycle k at
    to _ _ (short_first l) = island_order_short l
    to _ _ (short_second l) = island_cycle_short l
    to _ _ (behind_12 a b x) = judged_island a b x

    from : (k at : ℕ) → IslandJudgeRow s m order cycle k at → JudgeRowBy (IslandRow s m) order cycle k at
    from _ _ (island_order_short l) = short_first l
    from _ _ (island_cycle_short l) = short_second l
    from _ _ (judged_island a b x) = behind_12 a b x

    Same : Type 0
    Same = BuffersUnchanged order order' cycle cycle' (count_of r)

    found : (c : Contents) → read s ≡ accepted c → (w : PartJudged order order' cycle cycle' c m r) → Dec (Smallest c w.name m) → TurnsAway (IslandRow s m) (verdict_numbers (verdict_of r)) Same
    found c e w (yes k) = judged_carried (IslandRow s m) order order' cycle cycle' r (island_book c w.name m) (w.found k) (no_row_of s m c e w.name w.islands k)
    found c e w (no k) =
        let q = w.no_island k in
        rw q.numbers (refused_27 s m c e w.name w.islands Same k (buffers_unchanged (IslandRow s m) order order' cycle cycle' r NoIsland 0 q))

    go : (o : Outcome) → read s ≡ o → OutcomePart order order' cycle cycle' o m r → TurnsAway (IslandRow s m) (verdict_numbers (verdict_of r)) Same
    go (refused cause at) e w = rw w.numbers (book_rows s m Same cause at e (buffers_unchanged (IslandRow s m) order order' cycle cycle' r cause at w))
    go (accepted c) e w = found c e w (dec_smallest c w.name m)

-- ---- the demand

pub demand_1_of_islands : Demand1OfIslands
demand_1_of_islands = record {
  list_islands = islands_turn;
  deck_islands = deck_islands_turn;
  island_history = history_turns;
  deck_island_history = deck_history_turns;
  judge_island = island_turns;
  deck_judge_island = λ s m order order' cycle cycle' r h. rw h.numbers (island_turns s m order order' cycle cycle' h.judgement h.promise);
}
