-- The islands partition the declared runs, each is judged as the book with its history, and the whole is passed exactly when each is.
use Rattle.std.specs.Prelude.{Result, Err, Ok}
use Prim.Native.Nat.{ℕ, suc, ◌-◌, ◌≤◌, ◌<◌}
use native.Mathlib.Decide.{dec_lt}
use native.Mathlib.Omega.{arith}
use mathlib.Core.Path.{◌≡◌, refl, sym, ap, subst, ◌∙◌}
use mathlib.Core.Logic.{◌⊎◌, inl, inr, ◌↔◌}
use mathlib.Core.Bool.{true, false}
use mathlib.Core.List.{List, [], ◌∷◌}
use lib.ListN.{length, get_or, take, replicate, get_or-append, get_or-eq_default}
use lib.Seq.{take-append_seam}
use lib.Dec.{eqb}
use borrow.Author.Tests.{eq-eqb, ne_eqb}
use Rattle.theory.specs.History.{run}
use Rattle.theory.specs.Relative.{Lawful, RelativelySerialOrder, RelativelySerializable}
use Rattle.theory.specs.Graph.{Cycle}
use Rattle.theory.specs.Components.{Joined, Connected, smallest_of_each, smallest_runs, component_history}
use Rattle.theory.specs.Deck.{Step}
use Rattle.theory.proofs.Places.{ordinal_lt}
use Rattle.theory.proofs.Within.{count_kept, count_left_out, project_within}
use Rattle.theory.proofs.Connected.{smallest_le, connected_alone, connected_smallest}
use Rattle.theory.proofs.Components.{joined_sym, named, each_length, each_is, smallest_sound, smallest_complete, InList, smallest_rising, smallest_few, components_serializable}
use Rattle.theory.proofs.DeckLaws.{lawful}
use Rattle.book.specs.Format.{Bytes, Contents, Outcome, accepted, run_limit, step_limit, read, lengths, with_history, Allowed}
use Rattle.book.specs.Meaning.{conflict_of, unit_of}
use Rattle.book.specs.Numbers.{Numbers, answer_numbers}
use Rattle.book.specs.Render.{render}
use Rattle.book.specs.declared.Refusal.{Refusal}
use Rattle.book.proofs.Histories.{well_formed_allowed, history_book}
use Rattle.book.proofs.Sizes.{few}
use Rattle.book.proofs.RoundTrip.{accepted_book, render_read, render_bytes, read_with_history}
use Rattle.judge.specs.Judged.{JudgeAnswer, verdict_numbers, verdict_of, count_of}
use Rattle.judge.specs.Judge.{OutcomeJudged, BytesJudged}
use Rattle.judge.specs.declared.Verdict.{Verdict}
use Rattle.judge.specs.declared.Verdict.TheVariants.{Passed, Tangled}
use Rattle.judge.proofs.Uncut.{bytes_passed}
use Rattle.classes.specs.Tested.{Tested, Yes, YesWhere, OutcomeTested, TestedAs}
use Rattle.islands.specs.Islands.{IslandsOf, Smallest, island_book, island_list, island_steps, IslandsFound, OutcomeListed, IslandsListed, HistoryFound, OutcomeHistory, IslandHistory, PartJudged, OutcomePart, IslandJudged}
use Rattle.islands.specs.declared.IslandList.{IslandList}
use Rattle.islands.specs.declared.IslandSteps.{IslandSteps}
use Rattle.capi.specs.Numbers.{judged, listed_islands, listed_steps}
use Rattle.capi.specs.Calls.{IslandsCall}
use Rattle.capi.specs.declared.Judged.{Judged}
use Rattle.capi.specs.declared.ListedIslands.{ListedIslands}
use Rattle.capi.specs.declared.ListedSteps.{ListedSteps}
use Rattle.claims.specs.Demands.{judged_numbers, Demand2}
use Rattle.claims.specs.Classes.{JudgeAnswered, DeckJudgeAnswered, SaysPassed}
use Rattle.claims.specs.Islands.{Partition, AsItsBook, StepsOnce, IslandAnswered, DeckIslandAnswered, IslandClaims}
use Rattle.claims.proofs.Demands.{demand_2, passed_is_1}
use Rattle.claims.proofs.IslandNames.{dec_smallest, one_name_each, same_smallest, same_book}

-- ---- the islands of a book that was read

list_of : (s : List ℕ) (c : Contents) → read s ≡ accepted c → (r : Result IslandList Refusal) → IslandsListed s r → IslandsFound c r
list_of s c e r h = subst (λ (o : Outcome). OutcomeListed o r) e h.listed

history_of : (s : List ℕ) (c : Contents) → read s ≡ accepted c → (m : ℕ) (x : Result IslandSteps Refusal) → IslandHistory s m x → HistoryFound c m x
history_of s c e m x h = subst (λ (o : Outcome). OutcomeHistory o m x) e h.history

part_of : (s : List ℕ) (c : Contents) → read s ≡ accepted c → (m : ℕ) (order order' cycle cycle' : List ℕ) (r : JudgeAnswer) → step_limit ≤ length order → step_limit ≤ length cycle
    → IslandJudged order order' cycle cycle' s m r → PartJudged order order' cycle cycle' c m r
part_of s c e m order order' cycle cycle' r a b j = subst (λ (o : Outcome). OutcomePart order order' cycle cycle' o m r) e (j.long a b)

-- ---- the partition

module _ (c : Contents) (name : ℕ → ℕ) (is : IslandsOf c name) where
  abbrev J : ℕ → ℕ → Type 0
  J = Joined (conflict_of c) c.history

  abbrev n : ℕ
  n = length c.runs

  law : Lawful (conflict_of c)
  law = lawful c.pairs c.runs

  sym_joined : (r s : ℕ) → J r s → J s r
  sym_joined = joined_sym (conflict_of c) law c.history

  abbrev each : List ℕ
  each = (island_list name n).smallest

  abbrev list : List ℕ
  list = (island_list name n).list

  each_at : (r : ℕ) → r < n → get_or each r 0 ≡ name r
  each_at r h = get_or-append (smallest_of_each name n) _ 0 r (rw (each_length name n) h) ∙ each_is name n r h

  list_at : (i : ℕ) → i < length (smallest_runs name n) → get_or list i 0 ≡ get_or (smallest_runs name n) i 0
  list_at i h = get_or-append (smallest_runs name n) _ 0 i h

  below : (r : ℕ) → r < n → name r < n
  below r h = omega (arith, smallest_le J (is r))

  own : (r : ℕ) → name (name r) ≡ name r
  own = named (conflict_of c) law (unit_of c) c.history name is

  rises : (i j : ℕ) → i < j → j < length (smallest_runs name n) → get_or list i 0 < get_or list j 0
  rises i j k h = rw (list_at i (omega arith), list_at j h) (smallest_rising name n i j k h)

  one_index : (r i j : ℕ) → i < length (smallest_runs name n) → j < length (smallest_runs name n) → get_or list i 0 ≡ get_or each r 0 → get_or list j 0 ≡ get_or each r 0 → i ≡ j
  one_index r i j a b e f = go (dec_lt i j) (dec_lt j i)
    where
      go : Dec (i < j) → Dec (j < i) → i ≡ j
      go (yes k) d = absurd (omega (arith, rises i j k b, e, f))
      go (no k) (yes l) = absurd (omega (arith, rises j i l a, e, f))
      go (no k) (no l) = omega arith

  linked_names : (r s : ℕ) → r < n → s < n → (get_or each r 0 ≡ get_or each s 0) ↔ Connected J r s
  linked_names r s a b = let t = connected_smallest J sym_joined (is r) (is s) in (λ e. t.1 (sym (each_at r a) ∙ e ∙ each_at s b), λ l. each_at r a ∙ t.0 l ∙ sym (each_at s b))

  partition_of : Partition c n each (length (smallest_runs name n)) list
  partition_of = record {
    runs_are = refl;
    belongs = λ r h. let t = smallest_complete name n (name r) (below r h) (own r) in (t.index, t.inside, list_at t.index t.inside ∙ t.is ∙ sym (each_at r h));
    to_one = one_index;
    linked = linked_names;
    alone = λ r a k s b e. connected_alone J k ((linked_names r s a b).0 (sym e));
    of_the_island = λ r h. (rw (each_at r h) (below r h), rw (each_at r h) (each_at (name r) (below r h) ∙ own r));
    the_smallest = λ r s a b e. rw (e, each_at s b) (smallest_le J (is s));
    listed = λ i h. let t = smallest_sound name n i h in rw (list_at i h) (t.0, each_at (get_or (smallest_runs name n) i 0) t.0 ∙ t.1);
    rising = rises;
  }

  -- the islands of the list are those of the smallest runs
  listed_smallest : (i : ℕ) → i < length (smallest_runs name n) → Smallest c name (get_or list i 0)
  listed_smallest i h = let t = smallest_sound name n i h in record { declared = rw (list_at i h) t.0; own = rw (list_at i h) t.1 }

  -- each run's steps are in its island's history, and in no other's
  steps_once : (m : ℕ) → StepsOnce c m (component_history name c.history m) each
  steps_once m = record {
    own_steps = λ r h e. count_kept (λ k. eqb (name k) m) r (eq-eqb (name r) m (sym (each_at r h) ∙ e)) c.history;
    no_others = λ r h k. count_left_out (λ k. eqb (name k) m) r (ne_eqb (name r) m (λ e. k (each_at r h ∙ e))) c.history;
  }

-- the same of an answer
module _ (c : Contents) (r : IslandList) (u : IslandsFound c (Ok r)) where
  is_list : r ≡ island_list u.name (length c.runs)
  is_list = let h = u.is in let z : r ≡ island_list u.name (length c.runs) = cc in z

  answered_smallest : (i : ℕ) → i < r.count → Smallest c u.name (get_or r.list i 0)
  answered_smallest i h = rw (ap (λ (q : IslandList). q.list) is_list) (listed_smallest c u.name u.islands i (rw (ap (λ (q : IslandList). q.count) is_list) at h))

  answered_inside : (m : ℕ) (t : InList u.name (smallest_runs u.name (length c.runs)) m) → t.index < r.count
  answered_inside m t = rw (ap (λ (q : IslandList). q.count) is_list) t.inside

  answered_at : (m : ℕ) (t : InList u.name (smallest_runs u.name (length c.runs)) m) → get_or r.list t.index 0 ≡ m
  answered_at m t = rw (ap (λ (q : IslandList). q.list) is_list) (list_at c u.name u.islands t.index t.inside ∙ t.is)

pub partition : (s : List ℕ) (c : Contents) → read s ≡ accepted c → (r : Result IslandList Refusal) → IslandsListed s r
    → (x : IslandList) × (r ≡ Ok x) × Partition c x.runs x.smallest x.count x.list
partition s c e r h = let w = list_of s c e r h in (island_list w.name (length c.runs), w.is, partition_of c w.name w.islands)

deck_partition : (s : List ℕ) (c : Contents) → read s ≡ accepted c → (r : ListedIslands) → IslandsCall s r → Partition c r.runs r.smallest r.count r.list
deck_partition s c e r h = let p = partition s c e h.islands h.promise in rw (h.numbers ∙ ap listed_islands p.1) p.2

-- ---- an island's history

steps_told : (c : Contents) (m : ℕ) (x : Result IslandSteps Refusal) (w : HistoryFound c m x) → Smallest c w.name m
    → (y : IslandSteps) × (x ≡ Ok y) × (take y.count y.history ≡ component_history w.name c.history m)
steps_told c m x w k = let h = component_history w.name c.history m in (island_steps h, w.found k, take-append_seam h (replicate (step_limit - length h) 0))

-- an answer that is no refusal names an island
was_smallest : (c : Contents) (m : ℕ) (x : Result IslandSteps Refusal) (w : HistoryFound c m x) → (answer_numbers x).number ≡ 0 → Smallest c w.name m
was_smallest c m x w z = go (dec_smallest c w.name m)
  where
    go : Dec (Smallest c w.name m) → Smallest c w.name m
    go (yes k) = k
    go (no k) = let n : (answer_numbers x).number ≡ 27 = ap (λ (y : Result IslandSteps Refusal). (answer_numbers y).number) (w.no_island k) in absurd (omega arith)

pub histories : (s : List ℕ) (c : Contents) → read s ≡ accepted c → (r : IslandList) → IslandsListed s (Ok r) → (i : ℕ) → i < r.count
    → (x : Result IslandSteps Refusal) → IslandHistory s (get_or r.list i 0) x → (y : IslandSteps) × (x ≡ Ok y) × StepsOnce c (get_or r.list i 0) (take y.count y.history) r.smallest
histories s c e r h i k x y = go (list_of s c e (Ok r) h)
  where
    go : IslandsFound c (Ok r) → (y : IslandSteps) × (x ≡ Ok y) × StepsOnce c (get_or r.list i 0) (take y.count y.history) r.smallest
    go w =
        let v = history_of s c e (get_or r.list i 0) x y in
        let names = one_name_each c v.name w.name v.islands w.islands in
        let here = same_smallest c (get_or r.list i 0) w.name v.name w.islands v.islands (answered_smallest c r w i k) in
        let t = steps_told c (get_or r.list i 0) x v here in
        (t.0, t.1, rw (t.2, names, ap (λ (q : IslandList). q.smallest) (is_list c r w)) (steps_once c w.name w.islands (get_or r.list i 0)))

-- ---- an island as a book of its own

-- a test that holds of a book is answered yes
says_yes : (P : Contents → Type 0) (s : List ℕ) (c : Contents) → read s ≡ accepted c → P c → (t : Tested) → TestedAs P s t → t ≡ Yes
says_yes P s c e p t w = go t (subst (λ (o : Outcome). OutcomeTested o P t) e w.tested)
  where
    go : (t : Tested) → YesWhere (P c) t → t ≡ Yes
    go (Err refusal) k = absurd k
    go (Ok true) k = refl
    go (Ok false) k = absurd (k p)

-- a judgement that is no refusal had buffers long enough
long_enough : (s order order' cycle cycle' : List ℕ) (r : JudgeAnswer) → BytesJudged order order' cycle cycle' s r → (verdict_numbers (verdict_of r)).number ≡ 0
    → (step_limit ≤ length order) × (step_limit ≤ length cycle)
long_enough s order order' cycle cycle' r j z = go (dec_lt (length order) step_limit) (dec_lt (length cycle) step_limit)
  where
    refused : (length order < step_limit) ⊎ (length cycle < step_limit) → ⊥
    refused h = let k : (verdict_numbers (verdict_of r)).number ≡ 12 = ap (λ (n : Numbers). n.number) (j.short h).numbers in omega arith

    go : Dec (length order < step_limit) → Dec (length cycle < step_limit) → (step_limit ≤ length order) × (step_limit ≤ length cycle)
    go (yes h) d = absurd (refused (inl h))
    go (no n) (yes h) = absurd (refused (inr h))
    go (no n) (no m) = (omega arith, omega arith)

tangled_passed : ◌≡◌ {A = Result Verdict Refusal} (Ok Tangled) (Ok Passed) → ⊥
tangled_passed e = let z : ◌≡◌ {A = ℕ} 2 1 = ap (λ (w : Result Verdict Refusal). (verdict_numbers w).value) e in omega arith

module _ (s : List ℕ) (c : Contents) (bytes : Bytes s) (e : read s ≡ accepted c) where
  -- no run has more done steps than steps
  own_allowed : Allowed c.history c
  own_allowed = let b = accepted_book s c bytes e in rw (← b.contents) (well_formed_allowed b.well_formed)

  lengths_of : (rs : List (List Step)) → length (lengths rs) ≡ length rs
  lengths_of [] = refl
  lengths_of (r ∷ rs) = ap suc (lengths_of rs)

  pub runs_declared : (p : ℕ) → p < length c.history → run c.history p < length c.runs
  runs_declared p i = go (dec_lt (run c.history p) (length c.runs))
    where
      go : Dec (run c.history p < length c.runs) → run c.history p < length c.runs
      go (yes k) = k
      go (no k) =
          let z : get_or (lengths c.runs) (run c.history p) 0 ≡ 0 = get_or-eq_default (lengths c.runs) 0 (omega (arith, lengths_of c.runs)) in
          absurd (omega (arith, ordinal_lt c.history p i, own_allowed (run c.history p)))

  module _ (m : ℕ) (x : IslandSteps) (y : IslandHistory s m (Ok x)) where
    u : HistoryFound c m (Ok x)
    u = history_of s c e m (Ok x) y

    smallest : Smallest c u.name m
    smallest = was_smallest c m (Ok x) u refl

    abbrev h : List ℕ
    h = take x.count x.history

    told : h ≡ component_history u.name c.history m
    told = let t = steps_told c m (Ok x) u smallest in let f = t.1 in let z : t.0 ≡ x = cc in subst (λ (q : IslandSteps). take q.count q.history ≡ component_history u.name c.history m) z t.2

    allowed : Allowed h c
    allowed r = rw told (omega (arith, project_within (λ k. eqb (u.name k) m) c.history r, own_allowed r))

    reads : read (render (with_history c h)) ≡ accepted (with_history c h)
    reads = read_with_history s c h bytes e allowed

    judged_as : (order order' cycle cycle' : List ℕ) (r : JudgeAnswer) → IslandJudged order order' cycle cycle' s m r → BytesJudged order order' cycle cycle' (render (with_history c h)) r
    judged_as order order' cycle cycle' r j = record { short = j.short; long = λ a b. go (part_of s c e m order order' cycle cycle' r a b j) }
      where
        go : PartJudged order order' cycle cycle' c m r → OutcomeJudged order order' cycle cycle' (read (render (with_history c h))) r
        go w =
            let k = same_smallest c m u.name w.name u.islands w.islands smallest in
            let b : island_book c w.name m ≡ with_history c h = same_book c m w.name u.name w.islands u.islands ∙ ap (with_history c) (sym told) in
            subst (λ (o : Outcome). OutcomeJudged order order' cycle cycle' o r) (ap accepted b ∙ sym reads) (w.found k)

    abbrev part : List ℕ
    part = render (with_history c h)

    demand : (order order' cycle cycle' : List ℕ) (r : JudgeAnswer) → IslandJudged order order' cycle cycle' s m r → (verdict_numbers (verdict_of r)).number ≡ 0 → Demand2 (with_history c h) order' cycle' r
    demand order order' cycle cycle' r j z =
        let k = judged_as order order' cycle cycle' r j in
        let l = long_enough part order order' cycle cycle' r k z in
        demand_2 part (with_history c h) reads order order' cycle cycle' r l.0 l.1 k

    as_its_book : AsItsBook s c m h
    as_its_book = record {
      book_is = render_read s c bytes e;
      bytes = render_bytes (with_history c h) (history_book c h (accepted_book s c bytes e) allowed);
      reads = reads;
      judged_as = judged_as;
      deck_judged_as = λ order order' cycle cycle' r w. record { judgement = w.judgement; promise = judged_as order order' cycle cycle' w.judgement w.promise; numbers = w.numbers };
      order_checked = λ order order' cycle cycle' r j p t. says_yes (λ d. RelativelySerialOrder (conflict_of d) (unit_of d) d.history (take (count_of r) order')) part (with_history c h) reads
          ((demand order order' cycle cycle' r j (ap (λ (w : Result Verdict Refusal). (verdict_numbers w).number) p)).order_returned p) t;
      cycle_checked = λ order order' cycle cycle' r j p t. says_yes (λ d. Cycle (conflict_of d) (unit_of d) d.history (take (count_of r) cycle')) part (with_history c h) reads
          ((demand order order' cycle cycle' r j (ap (λ (w : Result Verdict Refusal). (verdict_numbers w).number) p)).cycle_returned (λ q. tangled_passed (sym p ∙ q))) t;
    }

-- ---- the whole and its islands

-- a judgement of an island that is found says whether its history is relatively serializable
part_passed : (c : Contents) (name : ℕ → ℕ) (m : ℕ) (order order' cycle cycle' : List ℕ) (r : JudgeAnswer) → OutcomeJudged order order' cycle cycle' (accepted (island_book c name m)) r
    → (verdict_of r ≡ Ok Passed) ↔ RelativelySerializable (conflict_of c) (unit_of c) (component_history name c.history m)
part_passed c name m order order' cycle cycle' (Err refusal) j = absurd j
part_passed c name m order order' cycle cycle' (Ok j) w = go j.verdict j.count w
  where
    go : (v : Verdict) (n : ℕ) → OutcomeJudged order order' cycle cycle' (accepted (island_book c name m)) (Ok (record { verdict = v; count = n }))
        → (◌≡◌ {A = Result Verdict Refusal} (Ok v) (Ok Passed)) ↔ RelativelySerializable (conflict_of c) (unit_of c) (component_history name c.history m)
    go Passed n k = (λ e. k.serializable, λ w. refl)
    go Tangled n k = (λ e. absurd (tangled_passed e), λ w. absurd (k.not_serializable w))

module _ (s : List ℕ) (c : Contents) (bytes : Bytes s) (e : read s ≡ accepted c) (r : IslandList) (u : IslandsFound c (Ok r)) where
  abbrev Passing : ℕ → Type 0
  Passing m = RelativelySerializable (conflict_of c) (unit_of c) (component_history u.name c.history m)

  by_parts : RelativelySerializable (conflict_of c) (unit_of c) c.history ↔ ((m : ℕ) → m < length c.runs → u.name m ≡ m → Passing m)
  by_parts = components_serializable (conflict_of c) (lawful c.pairs c.runs) (unit_of c) c.history u.name u.islands (length c.runs) (runs_declared s c bytes e)

  -- what a judgement of an island of the list says
  listed_passed : (i : ℕ) → i < r.count → (j : JudgeAnswer) → IslandAnswered s (get_or r.list i 0) j → (verdict_of j ≡ Ok Passed) ↔ Passing (get_or r.list i 0)
  listed_passed i h j x = go (part_of s c e (get_or r.list i 0) x.order x.order' x.cycle x.cycle' j x.order_long x.cycle_long x.promise)
    where
      go : PartJudged x.order x.order' x.cycle x.cycle' c (get_or r.list i 0) j → (verdict_of j ≡ Ok Passed) ↔ Passing (get_or r.list i 0)
      go v =
          let k = same_smallest c (get_or r.list i 0) u.name v.name u.islands v.islands (answered_smallest c r u i h) in
          let t = part_passed c v.name (get_or r.list i 0) x.order x.order' x.cycle x.cycle' j (v.found k) in
          rw (one_name_each c v.name u.name v.islands u.islands) at t

  -- of answers P that say the same of each island of the list
  by_list : (P : ℕ → Type 0) → ((i : ℕ) → i < r.count → P i ↔ Passing (get_or r.list i 0))
      → RelativelySerializable (conflict_of c) (unit_of c) c.history ↔ ((i : ℕ) → i < r.count → P i)
  by_list P x = (
    λ p i h. let k = answered_smallest c r u i h in (x i h).1 (by_parts.0 p (get_or r.list i 0) k.declared k.own),
    λ f. by_parts.1 (λ m a b. at_index f m (smallest_complete u.name (length c.runs) m a b)),
  )
    where
      at_index : ((i : ℕ) → i < r.count → P i) → (m : ℕ) → InList u.name (smallest_runs u.name (length c.runs)) m → Passing m
      at_index f m t = let k = answered_inside c r u m t in subst Passing (answered_at c r u m t) ((x t.index k).0 (f t.index k))

pub whole : (s : List ℕ) (c : Contents) → Bytes s → read s ≡ accepted c → (r : IslandList) → IslandsListed s (Ok r) → (w : JudgeAnswer) → JudgeAnswered s w
    → (parts : ℕ → JudgeAnswer) → ((i : ℕ) → i < r.count → IslandAnswered s (get_or r.list i 0) (parts i))
    → (verdict_of w ≡ Ok Passed) ↔ ((i : ℕ) → i < r.count → verdict_of (parts i) ≡ Ok Passed)
whole s c bytes e r l w x parts y =
    let u = list_of s c e (Ok r) l in
    let t = by_list s c bytes e r u (λ i. verdict_of (parts i) ≡ Ok Passed) (λ i h. listed_passed s c bytes e r u i h (parts i) (y i h)) in
    let k = bytes_passed x.order x.order' x.cycle x.cycle' s w x.promise x.order_long x.cycle_long c e in
    (λ p. t.0 (k.0 p), λ f. k.1 (t.1 f))

-- ---- for C

-- 1 stands for passed
is_1 : (j : JudgeAnswer) (r : Judged) → r ≡ judged (verdict_numbers (verdict_of j)) (count_of j) → SaysPassed r ↔ (verdict_of j ≡ Ok Passed)
is_1 j r q = (λ p. passed_is_1 (verdict_of j) (sym (ap judged_numbers q) ∙ p), λ p. ap judged_numbers q ∙ ap verdict_numbers p)

-- what a judgement by the call behind the entry answers
behind : (s : List ℕ) (m : ℕ) (r : Judged) (x : DeckIslandAnswered s m r) → IslandAnswered s m x.promise.judgement
behind s m r x = record { order = x.order; order' = x.order'; cycle = x.cycle; cycle' = x.cycle'; order_long = x.order_long; cycle_long = x.cycle_long; promise = x.promise.promise }

-- a judgement of the island m for C, and what P says of it
pub record Says (s : List ℕ) (m : ℕ) (P : Type 0) : Type 0 where
  pub judged : Judged
  pub answered : DeckIslandAnswered s m judged
  pub same : P ↔ SaysPassed judged

module _ (s : List ℕ) (c : Contents) (bytes : Bytes s) (e : read s ≡ accepted c) (w : Judged) (x : DeckJudgeAnswered s w) where
  deck_by_list : (l : IslandList) → IslandsListed s (Ok l) → (P : ℕ → Type 0) → ((i : ℕ) → i < l.count → Says s (get_or l.list i 0) (P i)) → SaysPassed w ↔ ((i : ℕ) → i < l.count → P i)
  deck_by_list l p P y = (λ a. t.0 (k.0 (top.0 a)), λ f. top.1 (k.1 (t.1 f)))
    where
      u : IslandsFound c (Ok l)
      u = list_of s c e (Ok l) p

      top : SaysPassed w ↔ (verdict_of x.promise.judgement ≡ Ok Passed)
      top = is_1 x.promise.judgement w x.promise.numbers

      k : (verdict_of x.promise.judgement ≡ Ok Passed) ↔ RelativelySerializable (conflict_of c) (unit_of c) c.history
      k = bytes_passed x.order x.order' x.cycle x.cycle' s x.promise.judgement x.promise.promise x.order_long x.cycle_long c e

      part : (i : ℕ) → i < l.count → P i ↔ Passing s c bytes e l u (get_or l.list i 0)
      part i h =
          let z = y i h in
          let j = z.answered.promise in
          let a = is_1 j.judgement z.judged j.numbers in
          let b = listed_passed s c bytes e l u i h j.judgement (behind s (get_or l.list i 0) z.judged z.answered) in
          (λ q. b.0 (a.0 (z.same.0 q)), λ q. z.same.1 (a.1 (b.1 q)))

      t : RelativelySerializable (conflict_of c) (unit_of c) c.history ↔ ((i : ℕ) → i < l.count → P i)
      t = by_list s c bytes e l u P part

  pub deck_by_answers : (r : ListedIslands) → IslandsCall s r → (P : ℕ → Type 0) → ((i : ℕ) → i < r.count → Says s (get_or r.list i 0) (P i)) → SaysPassed w ↔ ((i : ℕ) → i < r.count → P i)
  deck_by_answers r l =
      let u = list_of s c e l.islands l.promise in
      subst (λ (q : ListedIslands). (P : ℕ → Type 0) → ((i : ℕ) → i < q.count → Says s (get_or q.list i 0) (P i)) → SaysPassed w ↔ ((i : ℕ) → i < q.count → P i))
      (sym (l.numbers ∙ ap listed_islands u.is)) (deck_by_list (island_list u.name (length c.runs)) (subst (IslandsListed s) u.is l.promise))

-- there are at most as many islands as there may be runs
pub few_islands : (s : List ℕ) (c : Contents) → Bytes s → read s ≡ accepted c → (r : ListedIslands) → IslandsCall s r → r.count ≤ run_limit
few_islands s c bytes e r h =
    let w = list_of s c e h.islands h.promise in
    let n : r.count ≡ length (smallest_runs w.name (length c.runs)) = ap (λ (x : ListedIslands). x.count) (h.numbers ∙ ap listed_islands w.is) in
    let b = accepted_book s c bytes e in
    let k : length c.runs ≤ run_limit = rw (← b.contents) (few b.well_formed).runs in
    omega (arith, smallest_few w.name (length c.runs))

-- the verdict 1 for C stands for passed, of an island judged
pub says_by_verdict : (s : List ℕ) (m v : ℕ) (r : Judged) → DeckIslandAnswered s m r → v ≡ r.verdict → (v ≡ 1) ↔ SaysPassed r
says_by_verdict s m v r x e = (λ z. t.1 (go (verdict_of j) (sym q ∙ sym e ∙ z)), λ p. e ∙ q ∙ ap (λ (w : Result Verdict Refusal). (verdict_numbers w).value) (t.0 p))
  where
    j : JudgeAnswer
    j = x.promise.judgement

    t : SaysPassed r ↔ (verdict_of j ≡ Ok Passed)
    t = is_1 j r x.promise.numbers

    q : r.verdict ≡ (verdict_numbers (verdict_of j)).value
    q = ap (λ (y : Judged). y.verdict) x.promise.numbers

    go : (w : Result Verdict Refusal) → (verdict_numbers w).value ≡ 1 → w ≡ Ok Passed
    go (Err refusal) z = absurd (omega arith)
    go (Ok Passed) z = refl
    go (Ok Tangled) z = absurd (omega arith)

-- ---- the claims

pub island_claims : IslandClaims
island_claims = record {
  partition = partition;
  deck_partition = deck_partition;
  histories = histories;
  books = as_its_book;
  deck_books = λ s c b e m x h z.
      let u = history_of s c e m h.steps h.promise in
      let t = steps_told c m h.steps u (was_smallest c m h.steps u (sym (ap (λ (y : ListedSteps). y.number) h.numbers) ∙ z)) in
      rw (h.numbers ∙ ap listed_steps t.1) (as_its_book s c b e m t.0 (subst (IslandHistory s m) t.1 h.promise));
  whole = whole;
  deck_whole = λ s c b e r l w x parts y. deck_by_answers s c b e w x r l (λ i. SaysPassed (parts i)) (λ i h. record { judged = parts i; answered = y i h; same = (λ q. q, λ q. q) });
}
