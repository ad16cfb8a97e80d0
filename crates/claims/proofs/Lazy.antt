-- The demands exclude document 01's lazy programs, by its rows and by computation.
use Rattle.std.specs.Prelude.{Result, Ok}
use Prim.Native.Nat.{ℕ, zero, suc, ◌≤◌, ◌<◌}
use native.Mathlib.Decide.{ℕ_discrete, dec_lt, dec_le}
use native.Mathlib.Omega.{arith}
use mathlib.Core.Path.{◌≡◌, refl}
use mathlib.Core.Logic.{◌⊎◌, inl, inr, ◌≢◌}
use mathlib.Core.Bool.{Bool}
use mathlib.Core.List.{List, [], ◌∷◌, ◌++◌}
use lib.ListN.{length, get_or, take}
use lib.Seq.{get_or-take}
use Rattle.theory.specs.History.{count, run, ordinal, Same}
use Rattle.theory.specs.Relative.{Conflicting, Equivalent, RelativelySerial, RelativelySerializable}
use Rattle.theory.specs.Graph.{Arc, Cycle}
use Rattle.theory.specs.Deck.{same_position, touches_conflict, steps_conflict, conflict, unit}
use Rattle.theory.specs.Rows.{rows}
use Rattle.theory.specs.Inner.Places.{place_of}
use Rattle.theory.proofs.Finite.{least, some_below, dec_T, dec_both, dec_either, dec_not, dec_implies, all_below, by_yes}
use Rattle.theory.proofs.Places.{IsPlace, place_of_spec, place_of_ordinal, ordinal_lt}
use Rattle.theory.proofs.Steps.{dec_unit}
use Rattle.theory.proofs.Decided.{dec_directly, LastLink, dep_below, dec_depends, dec_last, dec_first, dec_arc_I, dec_arc_D, dec_arc_F, dec_arc_B, dec_arc, arc_source, arc_target}
use Rattle.theory.proofs.Decisions.{Differ, NextArc, dec_cycle}
use Rattle.theory.proofs.Forward.{cycle_refutes}
use Rattle.theory.proofs.Within.{prefix_serializable}
use Rattle.theory.proofs.Rows.{twelve_rows}
use Rattle.book.specs.Format.{Contents, Bytes, accepted, Allowed, operand_tests, obey, end_at, command_at, read_from, read_commands, read_by, read}
use Rattle.book.specs.Render.{render}
use Rattle.book.specs.Meaning.{conflict_of, unit_of}
use Rattle.book.proofs.Histories.{history_book}
use Rattle.book.proofs.RoundTrip.{accepted_book, read_render, render_bytes}
use Rattle.book.specs.declared.Refusal.{Refusal}
use Rattle.judge.specs.declared.Verdict.{Verdict}
use Rattle.judge.specs.declared.Verdict.TheVariants.{Passed, Tangled}
use Rattle.plain.specs.Plain.{step, withdraw, Answer, place, withdrawn, refused, State, newly_opened, keep, withdraw_run, Eligible, was_withdrawn, PlainCall, step_refused, step_tangled, step_kept, withdraws, PlainCalls, none, next}
use Rattle.plain.specs.Demand.{At, here, there, Moment}
use Rattle.claims.specs.Demands.{Demand2}
use Rattle.claims.specs.Lazy.{book_2, book_6, book_11, book_behind, Accepted, judged_passed, judged_tangled, unwritten, LazyProgramsCaught}
use Rattle.claims.proofs.Bytes.{bytes}

-- ---- the books

-- the runs without a history, by computation
runs_bytes : Bytes (render (book_2 []))
runs_bytes = bytes (render (book_2 [])) refl

runs_read : read (render (book_2 [])) ≡ accepted (book_2 [])
unfolding operand_tests obey end_at command_at read_from read_commands read_by
runs_read = refl

books_accepted : (h : List ℕ) → Allowed h (book_2 h) → Accepted (book_2 h)
books_accepted h w =
    let b = history_book (book_2 []) h (accepted_book (render (book_2 [])) (book_2 []) runs_bytes runs_read) w in
    (render_bytes (book_2 h) b, read_render (book_2 h) b)

others_accepted : Accepted book_6 × Accepted book_11 × Accepted book_behind
unfolding operand_tests obey end_at command_at read_from read_commands read_by
others_accepted = ((bytes (render book_6) refl, refl), (bytes (render book_11) refl, refl), (bytes (render book_behind) refl, refl))

-- ---- the rows

-- of the runs of row 2, uncut
abbrev pub Serializable : List ℕ → Type 0
Serializable h = RelativelySerializable (conflict_of (book_2 [])) (unit_of (book_2 [])) h

pub row_2_serializable : Serializable (0 ∷ 0 ∷ 1 ∷ 1 ∷ [])
unfolding rows
row_2_serializable = twelve_rows.each.1.0.verdict_is.0

row_3_not_serial : ¬ RelativelySerial (conflict_of (book_2 [])) (unit_of (book_2 [])) (0 ∷ 1 ∷ 0 ∷ 1 ∷ [])
unfolding rows
row_3_not_serial = twelve_rows.each.1.1.0.relserial_is

pub row_4_not_serializable : ¬ Serializable (0 ∷ 1 ∷ 1 ∷ 0 ∷ [])
unfolding rows
row_4_not_serializable = twelve_rows.each.1.1.1.0.verdict_is

pub row_5_serializable : Serializable (0 ∷ 1 ∷ 1 ∷ [])
unfolding rows
row_5_serializable = twelve_rows.each.1.1.1.1.0.verdict_is.0

-- the starts of row 5
pub start_1_serializable : Serializable (0 ∷ [])
start_1_serializable = prefix_serializable (conflict_of (book_2 [])) (unit_of (book_2 [])) (0 ∷ []) (1 ∷ 1 ∷ []) row_5_serializable

pub start_2_serializable : Serializable (0 ∷ 1 ∷ [])
start_2_serializable = prefix_serializable (conflict_of (book_2 [])) (unit_of (book_2 [])) (0 ∷ 1 ∷ []) (1 ∷ []) row_5_serializable

-- ---- the gates

-- the plain gate's states after step 0, step 1, step 1
abbrev pub after_1 : State
after_1 = keep newly_opened 0

abbrev pub after_2 : State
after_2 = keep after_1 1

abbrev pub after_3 : State
after_3 = keep after_2 1

module _ (h : List ℕ) where
  -- the plain gate keeps an eligible step where the kept list with it is relatively serializable
  pub kept_step : (m : State) (r : ℕ) → Eligible (book_2 h) m r → Serializable (m.kept ++ r ∷ []) → PlainCall (book_2 h) m (step r) (place (length m.kept)) (keep m r)
  kept_step m r e k = step_kept e (λ t. t k)

  eligible_0 : Eligible (book_2 h) newly_opened 0
  eligible_0 = omega arith

  before_only : Moment (book_2 h) (step 0 ∷ []) 0 newly_opened
  before_only = record { answers = []; reached = none }

  before_fourth : Moment (book_2 h) (step 0 ∷ step 1 ∷ step 1 ∷ step 0 ∷ []) 3 after_3
  before_fourth = record {
    answers = place 0 ∷ place 1 ∷ place 2 ∷ [];
    reached = next (kept_step newly_opened 0 eligible_0 start_1_serializable)
        (next (kept_step after_1 1 (omega arith) start_2_serializable)
        (next (kept_step after_2 1 (omega arith) row_5_serializable) none));
  }

  pub tangled_0 : PlainCall (book_2 h) after_3 (step 0) (refused 23) after_3
  tangled_0 = step_tangled {r = 0} (omega arith) row_4_not_serializable

  withdrawal_0 : PlainCall (book_2 h) after_3 (withdraw 0) withdrawn (withdraw_run after_3 0)
  withdrawal_0 = withdraws {r = 0} (omega arith)

  refused_21 : PlainCall (book_2 h) (withdraw_run after_3 0) (step 0) (refused 21) (withdraw_run after_3 0)
  refused_21 = step_refused {r = 0} (was_withdrawn (omega arith) (omega arith))

  -- document 01's gate example, up to 21
  withdrawn_0 : PlainCalls (book_2 h) newly_opened (step 0 ∷ step 1 ∷ step 1 ∷ step 0 ∷ withdraw 0 ∷ step 0 ∷ [])
      (place 0 ∷ place 1 ∷ place 2 ∷ refused 23 ∷ withdrawn ∷ refused 21 ∷ []) (withdraw_run after_3 0)
  withdrawn_0 =
      next (kept_step newly_opened 0 (omega arith) start_1_serializable)
      (next (kept_step after_1 1 (omega arith) start_2_serializable)
      (next (kept_step after_2 1 (omega arith) row_5_serializable)
      (next tangled_0
      (next withdrawal_0
      (next refused_21 none)))))

not_23_for_21 : ¬ (place 0 ∷ place 1 ∷ place 2 ∷ refused 23 ∷ withdrawn ∷ refused 23 ∷ [] ≡ place 0 ∷ place 1 ∷ place 2 ∷ refused 23 ∷ withdrawn ∷ refused 21 ∷ [])
not_23_for_21 e = let z : ◌≡◌ {A = ℕ} 23 21 = cc in omega arith

-- the answer at index 0 is the first
first : {l : List Answer} {x y : Answer} → At (x ∷ l) 0 y → x ≡ y
first here = refl

fourth_not_refused : ¬ At (place 0 ∷ place 1 ∷ place 2 ∷ place 3 ∷ []) 3 (refused 23)
fourth_not_refused (there (there (there t))) = let e = first t in let z : ◌≡◌ {A = ℕ} 0 1 = cc in omega arith

-- ---- the judges

tangled_not_passed : ◌≢◌ {A = Result Verdict Refusal} (Ok Tangled) (Ok Passed)
tangled_not_passed e = let z : ◌≡◌ {A = ℕ} 0 1 = cc in omega arith

-- an order that agrees has the places of a conflicting pair in the history's order
module _ (k : ℕ → ℕ → ℕ → ℕ → Bool) (h l : List ℕ) (e : Equivalent k h l) where
  abbrev place_in : ℕ → ℕ
  place_in p = place_of l (run h p) (ordinal h p)

  low : (p : ℕ) → p < length h → ordinal h p < count l (run h p)
  low p i = rw (e.order (run h p)) (ordinal_lt h p i)

  at_place : (p : ℕ) → p < length h → IsPlace l (run h p) (ordinal h p) (place_in p)
  at_place p i = place_of_spec l (run h p) (ordinal h p) (low p i)

  same_step : (p : ℕ) → p < length h → Same h p l (place_in p)
  same_step p i = record { runs = (at_place p i).1; ordinals = place_of_ordinal l (run h p) (ordinal h p) (low p i) }

  agreed : (p q : ℕ) → p < q → q < length h → Conflicting k h p q → place_in p < place_in q
  agreed p q b i c = let j : p < length h = omega arith in e.agrees p q (place_in p) (place_in q) b i (at_place p j).0 (at_place q i).0 (same_step p j) (same_step q i) c

cycle_length : (order' cycle' : List ℕ) (k : ℕ) → Demand2 (book_2 (0 ∷ 1 ∷ 1 ∷ 0 ∷ [])) order' cycle' (judged_tangled k) → (2 ≤ k) × (k ≤ 4)
cycle_length order' cycle' k d = let w = d.cycle_returned tangled_not_passed in omega (arith, w.least, w.most, d.cycle_counted tangled_not_passed)

outside : (k : ℕ) → (k < 2) ⊎ (4 < k) → ¬ ((2 ≤ k) × (k ≤ 4))
outside k (inl few) b = omega (arith, b.0)
outside k (inr many) b = omega (arith, b.1)

-- the second steps of the two runs, w6 and r6, are the one way round in row 3 and the other in row 6
writes_no_order : (b cycle' cycle'' : List ℕ) (k k' : ℕ) → Demand2 (book_2 (0 ∷ 1 ∷ 0 ∷ 1 ∷ [])) b cycle' (judged_passed k) → ¬ Demand2 book_6 b cycle'' (judged_passed k')
unfolding ordinal same_position touches_conflict steps_conflict conflict
writes_no_order b cycle' cycle'' k k' d d' =
    let v : Equivalent (conflict_of (book_2 [])) (0 ∷ 1 ∷ 0 ∷ 1 ∷ []) (take 4 b) = rw (d.order_counted refl) at (d.order_returned refl).equivalent in
    let v' : Equivalent (conflict_of (book_2 [])) (0 ∷ 1 ∷ 1 ∷ 0 ∷ []) (take 4 b) = rw (d'.order_counted refl) at (d'.order_returned refl).equivalent in
    let x : place_of (take 4 b) 0 1 < place_of (take 4 b) 1 1 = agreed (conflict_of (book_2 [])) (0 ∷ 1 ∷ 0 ∷ 1 ∷ []) (take 4 b) v 2 3 (omega arith) (omega arith) tt in
    let y : place_of (take 4 b) 1 1 < place_of (take 4 b) 0 1 = agreed (conflict_of (book_2 [])) (0 ∷ 1 ∷ 1 ∷ 0 ∷ []) (take 4 b) v' 2 3 (omega arith) (omega arith) tt in
    omega arith

-- no arc leads from one to another of the first three places
abbrev NoArcBehind : Type 0
NoArcBehind = (x : ℕ) → x < 3 → (y : ℕ) → y < 3 → ¬ Arc (conflict_of book_behind) (unit_of book_behind) book_behind.history x y

no_arc_behind : NoArcBehind
unfolding ordinal same_position touches_conflict steps_conflict conflict unit least some_below dec_T dec_both dec_either dec_not all_below dec_unit dec_directly LastLink dep_below dec_depends dec_last dec_first dec_arc_I dec_arc_D dec_arc_F dec_arc_B dec_arc ℕ_discrete dec_lt dec_le
no_arc_behind = by_yes (all_below _ (λ x. all_below _ (λ y. dec_not (dec_arc (conflict_of book_behind) (unit_of book_behind) book_behind.history x y)) 3) 3) tt

-- a cycle has two places at least, and no place twice
no_cycle_of_zeros : (c : Contents) (k : ℕ) → ¬ Cycle (conflict_of c) (unit_of c) c.history (take k unwritten)
no_cycle_of_zeros c zero w = omega (arith, w.least)
no_cycle_of_zeros c (suc zero) w = omega (arith, w.least)
no_cycle_of_zeros c (suc (suc k)) w = w.distinct 0 1 (omega arith) w.least refl

writes_no_cycle : (b order' order'' : List ℕ) (k k' : ℕ) → Demand2 book_11 order' b (judged_tangled k) → ¬ Demand2 book_behind order'' b (judged_tangled k')
writes_no_cycle b order' order'' k k' d d' =
    let w = d.cycle_returned tangled_not_passed in
    let w' = d'.cycle_returned tangled_not_passed in
    let n : 2 ≤ k = omega (arith, w.least, d.cycle_counted tangled_not_passed) in
    let n' : 2 ≤ k' = omega (arith, w'.least, d'.cycle_counted tangled_not_passed) in
    let a : Arc (conflict_of book_11) (unit_of book_11) book_11.history (get_or b 0 0) (get_or b 1 0) = rw (get_or-take k b 0 0 (omega arith), get_or-take k b 1 0 (omega arith)) at (w.next 0 w.least) in
    let a' : Arc (conflict_of book_behind) (unit_of book_behind) book_behind.history (get_or b 0 0) (get_or b 1 0) = rw (get_or-take k' b 0 0 (omega arith), get_or-take k' b 1 0 (omega arith)) at (w'.next 0 w'.least) in
    no_arc_behind (get_or b 0 0) (arc_source (conflict_of book_11) (unit_of book_11) a) (get_or b 1 0) (arc_target (conflict_of book_11) (unit_of book_11) a) a'

behind_tangled : ¬ RelativelySerializable (conflict_of book_behind) (unit_of book_behind) book_behind.history
unfolding ordinal same_position touches_conflict steps_conflict conflict unit least some_below dec_T dec_both dec_either dec_not dec_implies all_below dec_unit dec_directly LastLink dep_below dec_depends dec_last dec_first dec_arc_I dec_arc_D dec_arc_F dec_arc_B dec_arc ℕ_discrete dec_lt dec_le Differ NextArc dec_cycle
behind_tangled = cycle_refutes (conflict_of book_behind) (unit_of book_behind) book_behind.history (2 ∷ 3 ∷ [])
    (by_yes (dec_cycle (conflict_of book_behind) (unit_of book_behind) book_behind.history (2 ∷ 3 ∷ [])) tt)

-- ---- the theorem

pub lazy_programs_caught : LazyProgramsCaught
lazy_programs_caught = record {
  books_accepted = books_accepted;
  others_accepted = others_accepted;
  gate_always_refuses = λ s h g d. (d.tangled_exactly 0 0 newly_opened here (before_only h) (eligible_0 h)).0 here start_1_serializable;
  gate_refuses_before_looking = λ s h g d. not_23_for_21 (d.answers_equal _ _ (withdrawn_0 h));
  gate_always_admits = λ s h g d. fourth_not_refused ((d.tangled_exactly 3 0 after_3 (there (there (there here))) (before_fourth h) (omega arith)).1 row_4_not_serializable);
  judge_hands_back = λ rest cycle' d. row_3_not_serial (d.order_returned refl).serial;
  judge_always_tangled = λ order' cycle' k d. tangled_not_passed (d.passes_exactly.1 row_2_serializable);
  judge_writes_no_order = writes_no_order;
  judge_writes_no_cycle = writes_no_cycle;
  -- run 1 has two steps in row 3, and none in four zeros
  zeros_no_order = λ cycle' d. omega (arith, (d.order_returned refl).equivalent.order 1);
  zeros_no_cycle = λ order' k d. no_cycle_of_zeros (book_2 (0 ∷ 1 ∷ 1 ∷ 0 ∷ [])) k (d.cycle_returned tangled_not_passed);
  behind_tangled = behind_tangled;
  judge_invents_order_count = λ order' cycle' k other d. other (d.order_counted refl);
  judge_invents_cycle_length = λ order' cycle' k o d. outside k o (cycle_length order' cycle' k d);
}
