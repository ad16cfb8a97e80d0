-- The documents' table and the format are the same: each refusal is a row that applies, each row that applies is the refusal, and at most one applies.
use Prim.Native.Nat.{ℕ, zero, suc, ◌+◌, ◌-◌, ◌≤◌, ◌<◌}
use native.Mathlib.Nat.{le_refl, le_trans}
use native.Mathlib.Decide.{dec_le, dec_lt, ℕ_discrete}
use native.Mathlib.Omega.{arith}
use mathlib.Core.Path.{◌≡◌, refl, ap, sym, subst, ◌∙◌}
use mathlib.Core.Bool.{Bool, true, false, ◌&&◌, not, true≢false, and-false}
use mathlib.Core.Logic.{◌≢◌}
use mathlib.Core.List.{List, [], ◌∷◌, ◌++◌}
use borrow.Author.Tests.{ltb-false, leb-true, leb-false, eqb-true, eqb-false, not-false, lt-ltb, le-ltb, le-leb, lt-leb, eq-eqb, ne_eqb}
use lib.ListN.{length, get_or}
use lib.Dec.{leb, ltb, eqb}
use Rattle.theory.specs.History.{suc_if, count}
use Rattle.theory.specs.Deck.{Pair, Touch, Step, single, transfer, Cut}
use Rattle.theory.specs.Transfers.{TouchOf, only, first, second}
use Rattle.theory.proofs.Lists.{count_append}
use Rattle.book.specs.Format.{Contents, Outcome, refused, accepted, deck_rules, pick, byte, Command, pair, run, step, cut, done, width, above_pair, above_cut, kinds_low, operand_tests, Test, ReadState, Move, on, over, check, checks, command_tests, next_state, obeyed, obey, follow, end_at, command_at, read_from, read_commands, read_by, read, start}
use Rattle.book.specs.TestOrder.{test_order, book_numbers, index_of, rank, InOrder}
use Rattle.book.specs.Numbers.{number}
use Rattle.book.specs.declared.Cause.{Cause}
use Rattle.book.specs.declared.Cause.TheVariants.{BookTooLong, NoCommand, EndsEarly, BytesAfterEnd}
use Rattle.book.proofs.Ladder.{Fails, here, there, Holds, checks_fail, checks_hold}
use Rattle.book.proofs.FormatLaws.{width_positive, not_accepted}
use Rattle.book.proofs.TestOrder.{tested_in_order}
use Rattle.table.specs.BookTable.{most_bytes, LastIs, the_last, before_last, NotAbovePair, a_below, b_not_above, NotAboveCut, r_below, j_below, o_not_above, ReadTo, from_start, behind, CommandAt, is_43, is_52, is_53, is_54, is_42, is_48, NoCommandAt, Fault, inside_operands, after_later_group, before_any_52, a_above_15, b_above_15, a_above_b, kind_above_15, pair_not_above, triple_not_above, not_the_count, cut_undeclared, viewer_undeclared, seen_by_itself, done_undeclared, run_17, step_33_of_run, step_over_most, after_step_0, not_below_steps, no_step_left, BookRow, book_over, no_command, before_45, at_command, after_45}

-- ---- tests in order

-- a test with this number fails
data Broken : List Test → ℕ → Type 0 where
  at_once : {t : Test} {ts : List Test} → t.holds ≡ false → Broken (t ∷ ts) (number t.cause)
  later : {t : Test} {ts : List Test} {n : ℕ} → Broken ts n → Broken (t ∷ ts) n

in_order_behind : (t : Test) (ts : List Test) → InOrder (t ∷ ts) → InOrder ts
in_order_behind t [] o = tt
in_order_behind t (u ∷ us) o = o.1

broken_rank : {t : Test} {ts : List Test} {n : ℕ} → InOrder (t ∷ ts) → Broken (t ∷ ts) n → rank (number t.cause) ≤ rank n
broken_rank {t} o (at_once e) = le_refl _
broken_rank o (later (at_once e)) = o.0
broken_rank {ts = u ∷ us} o (later (later b)) = le_trans o.0 (broken_rank {t = u} {ts = us} o.1 (later b))

-- the number of each test stands in the order: the first's, then that of any that fails
first_ranked : (t : Test) (ts : List Test) → InOrder (t ∷ ts) → rank (number t.cause) < length test_order
first_ranked t [] o = o
first_ranked t (u ∷ us) o = omega (arith, o.0, first_ranked u us o.1)

broken_ranked : {ts : List Test} {n : ℕ} → InOrder ts → Broken ts n → rank n < length test_order
broken_ranked o (at_once {t} {ts} e) = first_ranked t ts o
broken_ranked o (later {t} {ts} b) = broken_ranked (in_order_behind t ts o) b

-- what fails first has the lowest number in the order
first_fails : {ts : List Test} {c : Cause} → InOrder ts → Fails ts c → (m : ℕ) → rank m < rank (number c) → ¬ Broken ts m
first_fails o (here e) m l b = let k = broken_rank o b in omega arith
first_fails o (there h f) m l (at_once e) = true≢false (sym h ∙ e)
first_fails {ts = t ∷ ts} o (there h f) m l (later b) = first_fails (in_order_behind t ts o) f m l b

fails_broken : {ts : List Test} {c : Cause} → Fails ts c → Broken ts (number c)
fails_broken (here e) = at_once e
fails_broken (there h f) = later (fails_broken f)

some_fails : {ts : List Test} {n : ℕ} → Broken ts n → (c : Cause) × Fails ts c
some_fails (at_once {t} e) = (t.cause, here e)
some_fails (later {t} {ts} b) = go t.holds refl (some_fails b)
  where
    go : (h : Bool) → t.holds ≡ h → (c : Cause) × Fails ts c → (c : Cause) × Fails (t ∷ ts) c
    go true e r = (r.0, there e r.1)
    go false e r = (t.cause, here e)

-- all hold exactly where none fails
holds_unbroken : {ts : List Test} {n : ℕ} → Holds ts → ¬ Broken ts n
holds_unbroken h (at_once e) = true≢false (sym h.0 ∙ e)
holds_unbroken h (later b) = holds_unbroken h.1 b

unbroken_holds : (ts : List Test) → ((n : ℕ) → ¬ Broken ts n) → Holds ts
unbroken_holds [] f = tt
unbroken_holds (t ∷ ts) f = (go t.holds refl, unbroken_holds ts (λ n b. f n (later b)))
  where
    go : (b : Bool) → t.holds ≡ b → t.holds ≡ true
    go true e = e
    go false e = absurd (f (number t.cause) (at_once e))

-- ---- the number at an index of the order

index_get_or : (n : ℕ) (ns : List ℕ) → index_of n ns < length ns → get_or ns (index_of n ns) 0 ≡ n
index_get_or n [] h = absurd (omega arith)
index_get_or n (m ∷ ms) h = go (eqb m n) refl h (index_get_or n ms)
  where
    go : (b : Bool) → eqb m n ≡ b → pick b 0 (suc (index_of n ms)) < suc (length ms) → (index_of n ms < length ms → get_or ms (index_of n ms) 0 ≡ n)
        → get_or (m ∷ ms) (pick b 0 (suc (index_of n ms))) 0 ≡ n
    go true e h r = eqb-true m n e
    go false e h r = r (omega arith)

index_in : (n : ℕ) (ns : List ℕ) → index_of n ns < length ns → 0 < count ns n
index_in n [] h = absurd (omega arith)
index_in n (m ∷ ms) h = go (eqb m n) h (index_in n ms)
  where
    go : (b : Bool) → pick b 0 (suc (index_of n ms)) < suc (length ms) → (index_of n ms < length ms → 0 < count ms n) → 0 < suc_if b (count ms n)
    go true h r = omega arith
    go false h r = r (omega arith)

rank_same : (n m : ℕ) → rank n < length test_order → rank m < length test_order → rank n ≡ rank m → n ≡ m
rank_same n m h k e = sym (index_get_or n test_order h) ∙ ap (λ (i : ℕ). get_or test_order i 0) e ∙ index_get_or m test_order k

-- ---- a ladder of tests that refuses, or goes on

over_on : {P : Type 0} (o : Outcome) (next : ℕ) (u : ReadState) → over o ≡ on next u → P
over_on o next u e = let z : ◌≡◌ {A = ℕ} 0 1 = cc in absurd (omega arith)

check_over_on : {P : Type 0} (b : Bool) (c : Cause) (p : ℕ) (o : Outcome) (next : ℕ) (u : ReadState) → check b c p (over o) ≡ on next u → P
check_over_on true c p o next u e = over_on o next u e
check_over_on false c p o next u e = over_on (refused c p) next u e

checks_refused : (ts : List Test) (at next : ℕ) (u : ReadState) (c : Cause) (p : ℕ) → checks ts at (on next u) ≡ over (refused c p) → Fails ts c × (p ≡ at)
checks_refused [] at next u c p e = over_on (refused c p) next u (sym e)
checks_refused (t ∷ ts) at next u c p e = go t.holds refl e (checks_refused ts at next u c p)
  where
    go : (b : Bool) → t.holds ≡ b → check b t.cause at (checks ts at (on next u)) ≡ over (refused c p)
        → (checks ts at (on next u) ≡ over (refused c p) → Fails ts c × (p ≡ at)) → Fails (t ∷ ts) c × (p ≡ at)
    go true h e r = let k = r e in (there h k.0, k.1)
    go false h e r = (subst (Fails (t ∷ ts)) (cc) (here h), cc)

checks_on : (ts : List Test) (at n next : ℕ) (v u : ReadState) → checks ts at (on n v) ≡ on next u → Holds ts × (on n v ≡ on next u)
checks_on [] at n next v u e = (tt, e)
checks_on (t ∷ ts) at n next v u e = go t.holds refl e (checks_on ts at n next v u)
  where
    go : (b : Bool) → t.holds ≡ b → check b t.cause at (checks ts at (on n v)) ≡ on next u
        → (checks ts at (on n v) ≡ on next u → Holds ts × (on n v ≡ on next u)) → Holds (t ∷ ts) × (on n v ≡ on next u)
    go true h e r = let k = r e in ((h, k.0), k.1)
    go false h e r = over_on (refused t.cause at) next u e

row_same : (s : List ℕ) (c d : Cause) (p q : ℕ) → over (refused c p) ≡ over (refused d q) → BookRow s (number c) p → BookRow s (number d) q
row_same s c d p q e b = let f : c ≡ d = cc in let g : p ≡ q = cc in rw (← f, ← g) b

-- ---- row 6: the test that a pair, or a triple, is above the last one fails exactly where the table says that it is not above

pair_from_test : (q p : Pair) → above_pair (q ∷ []) p ≡ false → NotAbovePair p q
pair_from_test q p e = go (eqb q.a p.a) refl e
  where
    go : (x : Bool) → eqb q.a p.a ≡ x → pick x (ltb q.b p.b) (ltb q.a p.a) ≡ false → NotAbovePair p q
    go true h e = b_not_above (sym (eqb-true q.a p.a h)) (ltb-false q.b p.b e)
    go false h e = let n : q.a ≢ p.a = eqb-false q.a p.a h in a_below (omega (arith, ltb-false q.a p.a e))

pair_to_test : (q p : Pair) → NotAbovePair p q → above_pair (q ∷ []) p ≡ false
pair_to_test q p (a_below h) = rw (ne_eqb q.a p.a (λ e. omega arith), le-ltb q.a p.a (omega arith))
pair_to_test q p (b_not_above e h) = rw (eq-eqb q.a p.a (sym e), le-ltb q.b p.b h)

pairs_from_test : (l : List Pair) (p : Pair) → above_pair l p ≡ false → (q : Pair) × (LastIs l q × NotAbovePair p q)
pairs_from_test [] p e = absurd (true≢false e)
pairs_from_test (q ∷ []) p e = (q, (the_last, pair_from_test q p e))
pairs_from_test (x ∷ y ∷ l) p e = let r = pairs_from_test (y ∷ l) p e in (r.0, (before_last r.1.0, r.1.1))

pairs_to_test : {l : List Pair} {p q : Pair} → LastIs l q → NotAbovePair p q → above_pair l p ≡ false
pairs_to_test the_last n = pair_to_test _ _ n
pairs_to_test (before_last the_last) n = pair_to_test _ _ n
pairs_to_test (before_last (before_last i)) n = pairs_to_test (before_last i) n

cut_from_test : (q c : Cut) → above_cut (q ∷ []) c ≡ false → NotAboveCut c q
cut_from_test q c e = go (eqb q.of_run c.of_run) (eqb q.after c.after) refl refl e
  where
    go : (x y : Bool) → eqb q.of_run c.of_run ≡ x → eqb q.after c.after ≡ y
        → pick x (pick y (ltb q.seen_by c.seen_by) (ltb q.after c.after)) (ltb q.of_run c.of_run) ≡ false → NotAboveCut c q
    go true true h k e = o_not_above (sym (eqb-true q.of_run c.of_run h)) (sym (eqb-true q.after c.after k)) (ltb-false q.seen_by c.seen_by e)
    go true false h k e =
        let n : q.after ≢ c.after = eqb-false q.after c.after k in
        j_below (sym (eqb-true q.of_run c.of_run h)) (omega (arith, ltb-false q.after c.after e))
    go false y h k e = let n : q.of_run ≢ c.of_run = eqb-false q.of_run c.of_run h in r_below (omega (arith, ltb-false q.of_run c.of_run e))

cut_to_test : (q c : Cut) → NotAboveCut c q → above_cut (q ∷ []) c ≡ false
cut_to_test q c (r_below h) = rw (ne_eqb q.of_run c.of_run (λ e. omega arith), le-ltb q.of_run c.of_run (omega arith))
cut_to_test q c (j_below e h) = rw (eq-eqb q.of_run c.of_run (sym e), ne_eqb q.after c.after (λ e. omega arith), le-ltb q.after c.after (omega arith))
cut_to_test q c (o_not_above e f h) = rw (eq-eqb q.of_run c.of_run (sym e), eq-eqb q.after c.after (sym f), le-ltb q.seen_by c.seen_by h)

cuts_from_test : (l : List Cut) (c : Cut) → above_cut l c ≡ false → (q : Cut) × (LastIs l q × NotAboveCut c q)
cuts_from_test [] c e = absurd (true≢false e)
cuts_from_test (q ∷ []) c e = (q, (the_last, cut_from_test q c e))
cuts_from_test (x ∷ y ∷ l) c e = let r = cuts_from_test (y ∷ l) c e in (r.0, (before_last r.1.0, r.1.1))

cuts_to_test : {l : List Cut} {c q : Cut} → LastIs l q → NotAboveCut c q → above_cut l c ≡ false
cuts_to_test the_last n = cut_to_test _ _ n
cuts_to_test (before_last the_last) n = cut_to_test _ _ n
cuts_to_test (before_last (before_last i)) n = cuts_to_test (before_last i) n

-- ---- row 5: the test of a step's kinds fails exactly where some touch has a kind above 15

kind_from_test : (x : Step) → kinds_low x ≡ false → (u : Touch) × (TouchOf x u × (15 < u.kind))
kind_from_test (single u) e = (u, (only, ltb-false u.kind 16 e))
kind_from_test (transfer u v) e = go (ltb u.kind 16) refl e
  where
    go : (b : Bool) → ltb u.kind 16 ≡ b → (b && ltb v.kind 16) ≡ false → (w : Touch) × (TouchOf (transfer u v) w × (15 < w.kind))
    go true q e = (v, (second, ltb-false v.kind 16 e))
    go false q e = (u, (first, ltb-false u.kind 16 q))

kind_to_test : {x : Step} {u : Touch} → TouchOf x u → 15 < u.kind → kinds_low x ≡ false
kind_to_test (only {t = u}) h = le-ltb u.kind 16 h
kind_to_test (first {t = u} {u = v}) h = rw (le-ltb u.kind 16 h)
kind_to_test (second {t = u} {u = v}) h = rw (le-ltb v.kind 16 h) (and-false (ltb u.kind 16))

module _ (s : List ℕ) (at : ℕ) (t : ReadState) where
  -- ---- a command has a fault exactly where a test with its number fails

  operand_fault : (c : Command) (n : ℕ) → Broken (operand_tests deck_rules t.contents c) n → Fault s at t c n
  unfolding operand_tests
  operand_fault (pair p) n (at_once e) = b_above_15 {p = p} (omega (arith, ltb-false))
  operand_fault (pair p) n (later (at_once e)) = a_above_b (leb-false _ _ e)
  operand_fault (pair p) n (later (later (at_once e))) = let r = pairs_from_test t.contents.pairs p e in pair_not_above r.1.0 r.1.1
  operand_fault (pair p) n (later (later (later x13))) = elim x13 [ ]
  operand_fault (run r) n (at_once e) = not_the_count (eqb-false _ _ e)
  operand_fault (run r) n (later (at_once e)) = run_17 (ltb-false _ _ e)
  operand_fault (run r) n (later (later x10)) = elim x10 [ ]
  operand_fault (step x) n (at_once e) = before_any_52 {x = x} (omega (arith, ltb-false))
  operand_fault (step x) n (later (at_once e)) = let r = kind_from_test x e in kind_above_15 r.1.0 r.1.1
  operand_fault (step x) n (later (later (at_once e))) = step_33_of_run (ltb-false _ _ e)
  operand_fault (step x) n (later (later (later (at_once e)))) = step_over_most (ltb-false _ _ e)
  operand_fault (step x) n (later (later (later (later x20)))) = elim x20 [ ]
  operand_fault (cut c) n (at_once e) = cut_undeclared (ltb-false _ _ e)
  operand_fault (cut c) n (later (at_once e)) = viewer_undeclared (ltb-false _ _ e)
  operand_fault (cut c) n (later (later (at_once e))) = seen_by_itself (eqb-true _ _ (not-false _ e))
  operand_fault (cut c) n (later (later (later (at_once e)))) = after_step_0 {c = c} (omega (arith, ltb-false))
  operand_fault (cut c) n (later (later (later (later (at_once e))))) = not_below_steps (ltb-false _ _ e)
  operand_fault (cut c) n (later (later (later (later (later (at_once e)))))) = let r = cuts_from_test t.contents.cuts c e in triple_not_above r.1.0 r.1.1
  operand_fault (cut c) n (later (later (later (later (later (later x28)))))) = elim x28 [ ]
  operand_fault (done r) n (at_once e) = done_undeclared (ltb-false _ _ e)
  operand_fault (done r) n (later (at_once e)) = no_step_left (ltb-false _ _ e)
  operand_fault (done r) n (later (later x13)) = elim x13 [ ]

  broken_fault : {c : Command} {n : ℕ} → Broken (command_tests deck_rules s at t c) n → Fault s at t c n
  broken_fault {c} (at_once e) = inside_operands {c = c} (omega (arith, leb-false))
  broken_fault {c} (later (at_once e)) = after_later_group (leb-false _ _ e)
  broken_fault {c} {n} (later (later b)) = operand_fault c n b

  a_broken : (p : Pair) → 15 < p.a → Broken (command_tests deck_rules s at t (pair p)) 5
  unfolding operand_tests
  a_broken p h = go (dec_le p.b 15)
    where
      go : Dec (p.b ≤ 15) → Broken (command_tests deck_rules s at t (pair p)) 5
      go (yes l) = later (later (later (at_once (lt-leb p.a p.b (omega arith)))))
      go (no l) = later (later (at_once (le-ltb p.b 16 (omega arith))))

  fault_broken : {c : Command} {n : ℕ} → Fault s at t c n → Broken (command_tests deck_rules s at t c) n
  unfolding operand_tests
  fault_broken (inside_operands {c} h) = at_once (lt-leb (width c) (length s - at) (omega (arith, width_positive c)))
  fault_broken (after_later_group h) = later (at_once (lt-leb _ _ h))
  fault_broken (before_any_52 h) = later (later (at_once (le-ltb 0 (length t.contents.runs) (omega arith))))
  fault_broken (a_above_15 {p} h) = a_broken p h
  fault_broken (b_above_15 {p} h) = later (later (at_once (le-ltb p.b 16 (omega arith))))
  fault_broken (a_above_b h) = later (later (later (at_once (lt-leb _ _ h))))
  fault_broken (kind_above_15 k h) = later (later (later (at_once (kind_to_test k h))))
  fault_broken (pair_not_above i h) = later (later (later (later (at_once (pairs_to_test i h)))))
  fault_broken (triple_not_above i h) = later (later (later (later (later (later (later (at_once (cuts_to_test i h))))))))
  fault_broken (not_the_count h) = later (later (at_once (ne_eqb _ _ h)))
  fault_broken (cut_undeclared h) = later (later (at_once (le-ltb _ _ h)))
  fault_broken (viewer_undeclared h) = later (later (later (at_once (le-ltb _ _ h))))
  fault_broken (seen_by_itself {c} h) = later (later (later (later (at_once (ap not (eq-eqb _ _ h))))))
  fault_broken (done_undeclared h) = later (later (at_once (le-ltb _ _ h)))
  fault_broken (run_17 h) = later (later (later (at_once (le-ltb _ _ h))))
  fault_broken (step_33_of_run h) = later (later (later (later (at_once (le-ltb _ _ h)))))
  fault_broken (step_over_most h) = later (later (later (later (later (at_once (le-ltb _ _ h))))))
  fault_broken (after_step_0 {c} h) = later (later (later (later (later (at_once (le-ltb 0 c.after (omega arith)))))))
  fault_broken (not_below_steps h) = later (later (later (later (later (later (at_once (le-ltb _ _ h)))))))
  fault_broken (no_step_left h) = later (later (later (at_once (le-ltb _ _ h))))

  -- ---- the command at an offset, by its first byte

  ended_there : length s ≤ at → command_at deck_rules s at t ≡ over (refused EndsEarly at)
  unfolding command_at
  ended_there h = rw (le-ltb at (length s) h)

  command_there : {c : Command} → at < length s → CommandAt s at c → command_at deck_rules s at t ≡ checks (command_tests deck_rules s at t c) at (obeyed c at t)
  unfolding command_at obey
  command_there h (is_43 e) = rw (lt-ltb at (length s) h, e)
  command_there h (is_52 e) = rw (lt-ltb at (length s) h, e)
  command_there h (is_53 e) = rw (lt-ltb at (length s) h, e)
  command_there h (is_54 e) = rw (lt-ltb at (length s) h, e)
  command_there h (is_42 e) = rw (lt-ltb at (length s) h, e)
  command_there h (is_48 e) = rw (lt-ltb at (length s) h, e)

  abbrev end_move : Move
  end_move = check (leb (length s) (at + 1)) BytesAfterEnd (at + 1) (over (accepted t.contents))

  end_there : at < length s → byte s at ≡ 0x45 → command_at deck_rules s at t ≡ end_move
  unfolding command_at end_at
  end_there h e = rw (lt-ltb at (length s) h, e)

  no_command_there : at < length s → NoCommandAt s at → command_at deck_rules s at t ≡ over (refused NoCommand at)
  unfolding command_at
  no_command_there h f =
      rw (
        lt-ltb at (length s) h,
        ne_eqb (byte s at) 0x43 f.no_43,
        ne_eqb (byte s at) 0x52 f.no_52,
        ne_eqb (byte s at) 0x53 f.no_53,
        ne_eqb (byte s at) 0x54 f.no_54,
        ne_eqb (byte s at) 0x42 f.no_42,
        ne_eqb (byte s at) 0x48 f.no_48,
        ne_eqb (byte s at) 0x45 f.no_45,
      )

  -- what reading finds at an offset, and the move that it makes
  data Found : Move → Type 0 where
    the_length : length s ≤ at → Found (over (refused EndsEarly at))
    a_command : {c : Command} → at < length s → CommandAt s at c → Found (checks (command_tests deck_rules s at t c) at (obeyed c at t))
    the_end : at < length s → byte s at ≡ 0x45 → Found end_move
    none : at < length s → NoCommandAt s at → Found (over (refused NoCommand at))

  found_command : {c : Command} → at < length s → CommandAt s at c → Found (command_at deck_rules s at t)
  found_command h k = rw (command_there h k) (a_command h k)

  abbrev Byte_is : ℕ → Type 0
  Byte_is x = Dec (byte s at ≡ x)

  found_by_byte : at < length s → Byte_is 0x43 → Byte_is 0x52 → Byte_is 0x53 → Byte_is 0x54 → Byte_is 0x42 → Byte_is 0x48 → Byte_is 0x45
      → Found (command_at deck_rules s at t)
  found_by_byte h (yes e) d₂ d₃ d₄ d₅ d₆ d₇ = found_command h (is_43 e)
  found_by_byte h (no n₁) (yes e) d₃ d₄ d₅ d₆ d₇ = found_command h (is_52 e)
  found_by_byte h (no n₁) (no n₂) (yes e) d₄ d₅ d₆ d₇ = found_command h (is_53 e)
  found_by_byte h (no n₁) (no n₂) (no n₃) (yes e) d₅ d₆ d₇ = found_command h (is_54 e)
  found_by_byte h (no n₁) (no n₂) (no n₃) (no n₄) (yes e) d₆ d₇ = found_command h (is_42 e)
  found_by_byte h (no n₁) (no n₂) (no n₃) (no n₄) (no n₅) (yes e) d₇ = found_command h (is_48 e)
  found_by_byte h (no n₁) (no n₂) (no n₃) (no n₄) (no n₅) (no n₆) (yes e) = rw (end_there h e) (the_end h e)
  found_by_byte h (no n₁) (no n₂) (no n₃) (no n₄) (no n₅) (no n₆) (no n₇) =
      let f : NoCommandAt s at = record { no_43 = n₁; no_52 = n₂; no_53 = n₃; no_54 = n₄; no_42 = n₅; no_48 = n₆; no_45 = n₇ } in
      rw (no_command_there h f) (none h f)

  found : Found (command_at deck_rules s at t)
  found = go (dec_lt at (length s))
    where
      byte_is : (x : ℕ) → Byte_is x
      byte_is x = ℕ_discrete (byte s at) x

      go : Dec (at < length s) → Found (command_at deck_rules s at t)
      go (yes h) = found_by_byte h (byte_is 0x43) (byte_is 0x52) (byte_is 0x53) (byte_is 0x54) (byte_is 0x42) (byte_is 0x48) (byte_is 0x45)
      go (no h) = rw (ended_there (omega arith)) (the_length (omega arith))

  -- ---- what is found refuses by a row, or leads on inside the book

  found_row : {m : Move} → length s ≤ most_bytes → ReadTo s at t → at ≤ length s → Found m → (cause : Cause) (p : ℕ) → m ≡ over (refused cause p) → BookRow s (number cause) p
  found_row short r i (the_length h) cause p e = let q : at ≡ length s = omega arith in row_same s EndsEarly cause at p e (rw q (before_45 short (rw q at r)))
  found_row short r i (a_command {c} h k) cause p e =
      let f = checks_refused (command_tests deck_rules s at t c) at _ _ cause p e in
      rw f.1 (at_command short r h k (broken_fault (fails_broken f.0)) (λ m l x. first_fails (tested_in_order deck_rules s at t c) f.0 m l (fault_broken x)))
  found_row short r i (the_end h b) cause p e = go (leb (length s) (at + 1)) refl e
    where
      go : (x : Bool) → leb (length s) (at + 1) ≡ x → check x BytesAfterEnd (at + 1) (over (accepted t.contents)) ≡ over (refused cause p) → BookRow s (number cause) p
      go true q e = let z : ◌≡◌ {A = ℕ} 0 1 = cc in absurd (omega arith)
      go false q e = row_same s BytesAfterEnd cause (at + 1) p e (after_45 short r b (leb-false _ _ q))
  found_row short r i (none h f) cause p e = row_same s NoCommand cause at p e (no_command short r h f)

  found_on : {m : Move} → ReadTo s at t → Found m → (next : ℕ) (u : ReadState) → m ≡ on next u → ReadTo s next u × (at < next) × (next ≤ length s)
  found_on r (the_length h) next u e = over_on (refused EndsEarly at) next u e
  found_on r (a_command {c} h k) next u e =
      let q = checks_on (command_tests deck_rules s at t c) at (at + width c) next (next_state c t) u e in
      let move : on (at + width c) (next_state c t) ≡ on next u = q.1 in
      let offset : at + width c ≡ next = cc in
      let state : next_state c t ≡ u = cc in (
        rw (← offset, ← state) (behind r h k (λ n f. holds_unbroken q.0 (fault_broken f))),
        omega (arith, width_positive c),
        omega (arith, leb-true (width c) (length s - at) q.0.0),
      )
  found_on r (the_end h b) next u e = check_over_on (leb (length s) (at + 1)) BytesAfterEnd (at + 1) (accepted t.contents) next u e
  found_on r (none h f) next u e = over_on (refused NoCommand at) next u e

-- ---- each refusal is a row

module _ (s : List ℕ) (short : length s ≤ most_bytes) (cause : Cause) (p : ℕ) where
  move_row : (k at : ℕ) (t : ReadState) → ReadTo s at t → at ≤ length s → length s ≤ at + k
      → ((next : ℕ) (u : ReadState) → ReadTo s next u → next ≤ length s → length s < next + k → read_from deck_rules k s next u ≡ refused cause p → BookRow s (number cause) p)
      → (m : Move) → command_at deck_rules s at t ≡ m → follow m (read_from deck_rules k s) ≡ refused cause p → BookRow s (number cause) p
  move_row k at t r i l more (on next u) q e =
      let f = found_on s at t r (found s at t) next u q in
      more next u f.0 f.2 (omega (arith, f.1)) e
  move_row k at t r i l more (over o) q e = found_row s at t short r i (found s at t) cause p (q ∙ ap over e)

  from_row : (k at : ℕ) (t : ReadState) → ReadTo s at t → at ≤ length s → length s < at + k → read_from deck_rules k s at t ≡ refused cause p → BookRow s (number cause) p
  unfolding read_from
  from_row zero at t r i l e = absurd (omega arith)
  from_row (suc k) at t r i l e = move_row k at t r i (omega arith) (from_row k) (command_at deck_rules s at t) refl e

pub refused_row : (s : List ℕ) (cause : Cause) (place : ℕ) → read s ≡ refused cause place → BookRow s (number cause) place
unfolding read_by read_commands
refused_row s cause place e = go (leb (length s) most_bytes) refl e
  where
    go : (b : Bool) → leb (length s) most_bytes ≡ b → pick b (read_commands deck_rules s) (refused BookTooLong 0) ≡ refused cause place → BookRow s (number cause) place
    go true q e = from_row s (leb-true _ _ q) cause place (suc (length s)) 0 start from_start (omega arith) (omega arith) e
    go false q e = row_same s BookTooLong cause 0 place (ap over e) (book_over (leb-false _ _ q))

-- ---- each row that applies is the refusal

-- reading comes to an offset with commands left
record Reached (s : List ℕ) (at : ℕ) (t : ReadState) : Type 0 where
  left : ℕ
  same : read_commands deck_rules s ≡ read_from deck_rules (suc left) s at t
  inside : at ≤ length s
  enough : length s ≤ at + left

reached_on : (s : List ℕ) (at n : ℕ) (t : ReadState) (c : Command) → 0 < n → at + n ≤ length s → command_at deck_rules s at t ≡ on (at + n) (next_state c t)
    → (k : ℕ) → read_commands deck_rules s ≡ read_from deck_rules (suc k) s at t → length s ≤ at + k → Reached s (at + n) (next_state c t)
unfolding read_from
reached_on s at n t c h i e zero q l = absurd (omega arith)
reached_on s at n t c h i e (suc k) q l = record { left = k; same = q ∙ rw e; inside = i; enough = omega arith }

reached : {s : List ℕ} {at : ℕ} {t : ReadState} → ReadTo s at t → Reached s at t
unfolding read_commands
reached {s} from_start = record { left = length s; same = refl; inside = omega arith; enough = omega arith }
reached {s} (behind {at} {t} {c} r h k f) =
    let a = reached r in
    let ts = command_tests deck_rules s at t c in
    let all : Holds ts = unbroken_holds ts (λ n b. f n (broken_fault s at t b)) in
    let i : width c ≤ length s - at = leb-true (width c) (length s - at) all.0 in
    reached_on s at (width c) t c (width_positive c) (omega arith) (command_there s at t h k ∙ checks_hold ts at (obeyed c at t) all) a.left a.same a.enough

refused_there : {s : List ℕ} {at : ℕ} {t : ReadState} (cause : Cause) (p : ℕ) → length s ≤ most_bytes → ReadTo s at t
    → command_at deck_rules s at t ≡ over (refused cause p) → read s ≡ refused cause p
unfolding read_by read_from
refused_there {s} cause p short r e = let h = reached r in rw (le-leb (length s) most_bytes short) (h.same ∙ rw e)

-- the number of the first test that fails is a fault's that has none before it
first_number : (s : List ℕ) (at n : ℕ) (t : ReadState) (c : Command) (cause : Cause) → Fault s at t c n → ((m : ℕ) → rank m < rank n → ¬ Fault s at t c m)
    → Fails (command_tests deck_rules s at t c) cause → number cause ≡ n
first_number s at n t c cause f early g = go (dec_lt (rank (number cause)) (rank n)) (dec_lt (rank n) (rank (number cause)))
  where
    b : Broken (command_tests deck_rules s at t c) n
    b = fault_broken s at t f

    o : InOrder (command_tests deck_rules s at t c)
    o = tested_in_order deck_rules s at t c

    go : Dec (rank (number cause) < rank n) → Dec (rank n < rank (number cause)) → number cause ≡ n
    go (yes l) d = absurd (early (number cause) l (broken_fault s at t (fails_broken g)))
    go (no l) (yes k) = absurd (first_fails o g n k b)
    go (no l) (no k) = rank_same (number cause) n (broken_ranked o (fails_broken g)) (broken_ranked o b) (omega arith)

pub row_refused : (s : List ℕ) (n place : ℕ) → BookRow s n place → (cause : Cause) × ((read s ≡ refused cause place) × (number cause ≡ n))
unfolding read_by end_at
row_refused s n place (book_over h) = (BookTooLong, (rw (lt-leb (length s) most_bytes h), refl))
row_refused s n place (no_command {at} {t} short r h f) = (NoCommand, (refused_there NoCommand at short r (no_command_there s at t h f), refl))
row_refused s n place (before_45 {t} short r) = (EndsEarly, (refused_there EndsEarly (length s) short r (ended_there s (length s) t (le_refl _)), refl))
row_refused s n place (at_command {at} {t} {c} short r h k f early) =
    let g = some_fails (fault_broken s at t f) in
    (g.0, (refused_there g.0 at short r (command_there s at t h k ∙ checks_fail _ g.0 at _ g.1), first_number s at n t c g.0 f early g.1))
row_refused s n place (after_45 {at} {t} short r b l) =
    (BytesAfterEnd, (refused_there BytesAfterEnd (at + 1) short r (end_there s at t (omega arith) b ∙ rw (lt-leb (length s) (at + 1) l)), refl))

-- ---- each row's number is one of `book_numbers`

within : (n m : ℕ) (ns ks : List ℕ) → 0 < count ns n → 0 < count (m ∷ ns ++ ks) n
within n m ns ks h = omega (arith, count_append (m ∷ []) (ns ++ ks) n, count_append ns ks n)

pub row_numbered : (s : List ℕ) (n place : ℕ) → BookRow s n place → 0 < count book_numbers n
row_numbered s n place (book_over h) = omega arith
row_numbered s n place (no_command short r h f) = omega arith
row_numbered s n place (before_45 short r) = omega arith
row_numbered s n place (at_command {at} {t} {c} short r h k f early) = within n 1 test_order (11 ∷ []) (index_in n test_order (broken_ranked (tested_in_order deck_rules s at t c) (fault_broken s at t f)))
row_numbered s n place (after_45 short r b l) = omega arith

-- ---- so at most one row applies, and none to an accepted book

pub row_single : (s : List ℕ) (n m p q : ℕ) → BookRow s n p → BookRow s m q → (n ≡ m) × (p ≡ q)
row_single s n m p q a b =
    let x = row_refused s n p a in
    let y = row_refused s m q b in
    let e : refused x.0 p ≡ refused y.0 q = sym x.1.0 ∙ y.1.0 in
    let c : x.0 ≡ y.0 = cc e in
    (sym x.1.1 ∙ ap number c ∙ y.1.1, cc e)

pub accepted_no_row : (s : List ℕ) (c : Contents) → read s ≡ accepted c → (n p : ℕ) → ¬ BookRow s n p
accepted_no_row s c e n p b = let x = row_refused s n p b in not_accepted x.0 p c (sym x.1.0 ∙ e)
