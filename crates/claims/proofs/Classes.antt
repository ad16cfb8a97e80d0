-- The classes are nested, as the calls answer: each answer says that the bytes are an accepted book whose history is in a class, and theory has the
-- classes nested. Rows 3, 6 and 8 are among theory's twelve, and their books are read by computation.
use Rattle.std.specs.Prelude.{Result, Err, Ok}
use Prim.Native.Nat.{ℕ}
use native.Mathlib.Omega.{arith}
use mathlib.Core.Path.{◌≡◌, refl, sym, subst, ap, ◌∙◌}
use mathlib.Core.Logic.{◌↔◌}
use mathlib.Core.Bool.{Bool, true, false}
use mathlib.Core.List.{List}
use Rattle.theory.specs.Deck.{unit}
use Rattle.theory.specs.Rows.{HistoryRow, rows, Is, Holds, row_3, row_6, row_8}
use Rattle.theory.proofs.Answered.{false_true}
use Rattle.theory.proofs.Classes.{serial_atomic, atomic_relserial, relserial_serializable, serial_conflict, conflict_relatively}
use Rattle.theory.proofs.Rows.{twelve_rows}
use Rattle.book.specs.Format.{Contents, with_cuts, Outcome, refused, accepted, operand_tests, obey, end_at, command_at, read_from, read_commands, read_by, read}
use Rattle.book.specs.Numbers.{Numbers, value_of}
use Rattle.book.specs.declared.Cause.{Cause}
use Rattle.book.specs.Meaning.{conflict_of, unit_of, SerialHistory, RelativelyAtomicHistory, RelativelySerialHistory, ConflictSerializableHistory, RelativelySerializableHistory}
use Rattle.judge.specs.Judged.{JudgeAnswer, verdict_numbers, verdict_of}
use Rattle.judge.specs.Judge.{OutcomeJudged}
use Rattle.book.specs.declared.Refusal.{Refusal}
use Rattle.judge.specs.declared.Verdict.{Verdict}
use Rattle.judge.specs.declared.Verdict.TheVariants.{Passed, Tangled}
use Rattle.judge.proofs.Uncut.{bytes_passed}
use Rattle.classes.specs.Tested.{Tested, Yes, No, tested_numbers, OutcomeTested, TestedAs}
use Rattle.report.specs.Text.{Findings, Report, accepted_with, Verdict as ReportVerdict, passed, tangled}
use Rattle.report.specs.Reporting.{VerdictOn, FindingsOn, ReportOn, Reports}
use Rattle.capi.specs.Calls.{TestCall}
use Rattle.capi.specs.declared.Answered.{Answered}
use Rattle.capi.specs.declared.Judged.{Judged}
use Rattle.claims.specs.Demands.{answered_numbers, judged_numbers}
use Rattle.claims.specs.Classes.{Nested, OtherCuts, JudgeAnswered, DeckJudgeAnswered, SaysYes, SaysPassed, TextSaysPassed, NestedFindings, row_contents, row_bytes, RowPassed, ClassesNested}
use Rattle.claims.proofs.Bytes.{all_bytes, bytes}
use Rattle.claims.proofs.Determined.{all_determined}

-- the bytes are those of an accepted book, whose contents have the property
record InClass (P : Contents → Type 0) (s : List ℕ) : Type 0 where
  held : Contents
  book : read s ≡ accepted held
  holds : P held

-- ---- what each answer says

module _ (P : Contents → Type 0) (s : List ℕ) where
  -- an accepted book in the class has the property
  class_of : (c : Contents) → read s ≡ accepted c → InClass P s → P c
  class_of c e w = subst P (let same : accepted w.held ≡ accepted c = sym w.book ∙ e in cc) w.holds

  -- a refused book is in no class
  no_class : (cause : Cause) (place : ℕ) → read s ≡ refused cause place → ¬ InClass P s
  no_class cause place e w = let f = w.book in let z : ◌≡◌ {A = ℕ} 0 1 = cc in omega arith

  tested_class : (r : Tested) → TestedAs P s r → (r ≡ Yes) ↔ InClass P s
  tested_class r t = go (read s) refl r t.tested
    where
      go : (o : Outcome) → read s ≡ o → (r : Tested) → OutcomeTested o P r → (r ≡ Yes) ↔ InClass P s
      go (refused cause place) e r t = (λ y. absurd (let f = t.refusal in let z : ◌≡◌ {A = ℕ} 0 1 = cc in omega arith), λ w. absurd (no_class cause place e w))
      go (accepted c) e (Err refusal) t = absurd t
      go (accepted c) e (Ok true) t = (λ y. record { held = c; book = e; holds = t }, λ w. refl)
      go (accepted c) e (Ok false) t = (λ y. absurd (let z : ◌≡◌ {A = ℕ} 0 1 = cc in omega arith), λ w. absurd (t (class_of c e w)))

  -- in numbers
  answered_class : (r : Answered) → TestCall P s r → SaysYes r ↔ InClass P s
  answered_class r t = let w = tested_class t.tested t.promise in (λ y. w.0 (go t.tested (sym (ap answered_numbers t.numbers) ∙ y)), λ i. rw (t.numbers, w.1 i) refl)
    where
      go : (x : Tested) → tested_numbers x ≡ value_of 1 → x ≡ Yes
      go (Err refusal) e = absurd (omega (arith, ap (λ (n : Numbers). n.value) e))
      go (Ok true) e = refl
      go (Ok false) e = absurd (omega (arith, ap (λ (n : Numbers). n.value) e))

  -- in a line of the program's text
  written_class : (c : Contents) → read s ≡ accepted c → (b : Bool) → Is b (P c) → (b ≡ true) ↔ InClass P s
  written_class c e true p = (λ y. record { held = c; book = e; holds = p }, λ w. refl)
  written_class c e false n = (λ y. absurd (false_true y), λ w. absurd (n (class_of c e w)))

module _ (s : List ℕ) where
  judged_class : (j : JudgeAnswer) → JudgeAnswered s j → (verdict_of j ≡ Ok Passed) ↔ InClass RelativelySerializableHistory s
  judged_class j w = go (read s) refl (w.promise.long w.order_long w.cycle_long)
    where
      go : (o : Outcome) → read s ≡ o → OutcomeJudged w.order w.order' w.cycle w.cycle' o j → (verdict_of j ≡ Ok Passed) ↔ InClass RelativelySerializableHistory s
      go (refused cause place) e k = (λ y. absurd (let f = ap verdict_of k.refusal in let z : ◌≡◌ {A = ℕ} 0 1 = cc in omega arith), λ i. absurd (no_class RelativelySerializableHistory s cause place e i))
      go (accepted c) e k =
          let b = bytes_passed w.order w.order' w.cycle w.cycle' s j w.promise w.order_long w.cycle_long c e in
          (λ y. record { held = c; book = e; holds = b.0 y }, λ i. b.1 (class_of RelativelySerializableHistory s c e i))

  -- the judgement behind the numbers for C
  judgement_behind : (r : Judged) (w : DeckJudgeAnswered s r) → JudgeAnswered s w.promise.judgement
  judgement_behind r w = record { order = w.order; order' = w.order'; cycle = w.cycle; cycle' = w.cycle'; order_long = w.order_long; cycle_long = w.cycle_long; promise = w.promise.promise }

  deck_judged_class : (r : Judged) → DeckJudgeAnswered s r → SaysPassed r ↔ InClass RelativelySerializableHistory s
  deck_judged_class r w =
      let t = judged_class w.promise.judgement (judgement_behind r w) in
      (λ y. t.0 (go (verdict_of w.promise.judgement) (sym (ap judged_numbers w.promise.numbers) ∙ y)), λ i. rw (w.promise.numbers, t.1 i) refl)
    where
      go : (v : Result Verdict Refusal) → verdict_numbers v ≡ value_of 1 → v ≡ Ok Passed
      go (Err refusal) e = absurd (omega (arith, ap (λ (n : Numbers). n.value) e))
      go (Ok Passed) e = refl
      go (Ok Tangled) e = absurd (omega (arith, ap (λ (n : Numbers). n.value) e))

  -- in the program's text
  text_class : (c : Contents) → read s ≡ accepted c → (v : ReportVerdict) → VerdictOn c v → TextSaysPassed v ↔ InClass RelativelySerializableHistory s
  text_class c e (passed l) w = (λ y. record { held = c; book = e; holds = record { order = l; evidence = w.0 } }, λ i. (l, refl))
  text_class c e (tangled l ns) w = (λ y. absurd (let f = y.1 in let z : ◌≡◌ {A = ℕ} 0 1 = cc in omega arith), λ i. absurd (w.0 (class_of RelativelySerializableHistory s c e i)))

  -- ---- nested

  module _ {P Q : Contents → Type 0} where
    within : ((c : Contents) → P c → Q c) → InClass P s → InClass Q s
    within f w = record { held = w.held; book = w.book; holds = f w.held w.holds }

  nested : {S A R C P : Type 0} → S ↔ InClass SerialHistory s → A ↔ InClass RelativelyAtomicHistory s → R ↔ InClass RelativelySerialHistory s
      → C ↔ InClass ConflictSerializableHistory s → P ↔ InClass RelativelySerializableHistory s → Nested S A R C P
  nested is_s is_a is_r is_c is_p = record {
    serial_atomic = λ y. is_a.1 (within (λ c. serial_atomic (unit_of c) c.history) (is_s.0 y));
    atomic_relserial = λ y. is_r.1 (within (λ c. atomic_relserial (conflict_of c) (unit_of c) c.history) (is_a.0 y));
    relserial_passed = λ y. is_p.1 (within (λ c. relserial_serializable (conflict_of c) (unit_of c) c.history) (is_r.0 y));
    serial_conflict = λ y. is_c.1 (within (λ c. serial_conflict (conflict_of c) c.history) (is_s.0 y));
    conflict_passed = λ y. is_p.1 (within (λ c. conflict_relatively (conflict_of c) (unit_of c) c.history) (is_c.0 y));
  }

-- cuts play no part in the conflict, the runs and the history
any_cuts : (s s' : List ℕ) → OtherCuts s s' → {C P : Type 0} → C ↔ InClass ConflictSerializableHistory s → P ↔ InClass RelativelySerializableHistory s' → C → P
any_cuts s s' o is_c is_p y = is_p.1 (record {
  held = with_cuts o.held o.cuts;
  book = o.other;
  holds = conflict_relatively (conflict_of o.held) (unit o.cuts) o.held.history (class_of ConflictSerializableHistory s o.held o.book (is_c.0 y));
})

-- ---- the rows

-- the answer of a class test on an accepted book
abbrev says : Bool → Tested
says true = Yes
says false = No

-- it is the only one that meets the contract
only_answer : (P : Contents → Type 0) (s : List ℕ) (c : Contents) → read s ≡ accepted c → (b : Bool) → Is b (P c) → (r : Tested) → TestedAs P s r → r ≡ says b
only_answer P s c e b p r t = all_determined.testing P s r (says b) t (record { tested = subst (λ (o : Outcome). OutcomeTested o P (says b)) (sym e) (go b p) })
  where
    go : (b : Bool) → Is b (P c) → OutcomeTested (accepted c) P (says b)
    go true p = p
    go false p = p

module _ (t : HistoryRow) (w : Holds t) (ok : RelativelySerializableHistory (row_contents t)) (b : all_bytes (row_bytes t) ≡ true) (e : read (row_bytes t) ≡ accepted (row_contents t)) where
  row_passed : RowPassed t (says t.serial) (says t.atomic) (says t.relserial) (says t.conflict)
  row_passed = record {
    bytes = bytes (row_bytes t) b;
    book = e;
    answers = λ s a r c j x. (serial s x.serial_is, atomic a x.atomic_is, relserial r x.relserial_is, conflict c x.conflict_is, judged j x.judgement_is);
    deck_answers = λ s a r c j x. (
      numbers SerialHistory s x.serial_is (serial _ x.serial_is.promise),
      numbers RelativelyAtomicHistory a x.atomic_is (atomic _ x.atomic_is.promise),
      numbers RelativelySerialHistory r x.relserial_is (relserial _ x.relserial_is.promise),
      numbers ConflictSerializableHistory c x.conflict_is (conflict _ x.conflict_is.promise),
      (deck_judged_class (row_bytes t) j x.judgement_is).1 passes,
    );
  }
    where
      serial : (r : Tested) → TestedAs SerialHistory (row_bytes t) r → r ≡ says t.serial
      serial = only_answer SerialHistory (row_bytes t) (row_contents t) e t.serial w.serial_is

      atomic : (r : Tested) → TestedAs RelativelyAtomicHistory (row_bytes t) r → r ≡ says t.atomic
      atomic = only_answer RelativelyAtomicHistory (row_bytes t) (row_contents t) e t.atomic w.atomic_is

      relserial : (r : Tested) → TestedAs RelativelySerialHistory (row_bytes t) r → r ≡ says t.relserial
      relserial = only_answer RelativelySerialHistory (row_bytes t) (row_contents t) e t.relserial w.relserial_is

      conflict : (r : Tested) → TestedAs ConflictSerializableHistory (row_bytes t) r → r ≡ says t.conflict
      conflict = only_answer ConflictSerializableHistory (row_bytes t) (row_contents t) e t.conflict w.conflict_is

      passes : InClass RelativelySerializableHistory (row_bytes t)
      passes = record { held = row_contents t; book = e; holds = ok }

      judged : (j : JudgeAnswer) → JudgeAnswered (row_bytes t) j → verdict_of j ≡ Ok Passed
      judged j x = (judged_class (row_bytes t) j x).1 passes

      -- the numbers for C of such an answer
      numbers : (P : Contents → Type 0) (r : Answered) (x : TestCall P (row_bytes t) r) {y : Tested} → x.tested ≡ y → answered_numbers r ≡ tested_numbers y
      numbers P r x i = rw (x.numbers, i) refl

-- ---- the theorem

module _ (s before after : List ℕ) (n : ℕ) (p : Reports (read s) before after n) (w : Findings) (e : p.report ≡ accepted_with w) where
  -- a text that is no refusal is of an accepted book
  text_of_book : (c : Contents) × (read s ≡ accepted c) × FindingsOn c w
  text_of_book = go (read s) refl (subst (λ (x : Report). ReportOn (read s) x) e p.report_on)
    where
      go : (o : Outcome) → read s ≡ o → ReportOn o (accepted_with w) → (c : Contents) × (read s ≡ accepted c) × FindingsOn c w
      go (refused cause place) f h = absurd (let z : ◌≡◌ {A = ℕ} 0 1 = cc in omega arith)
      go (accepted c) f h = (c, f, h)

  text_conflict : (w.conflict ≡ true) ↔ InClass ConflictSerializableHistory s
  text_conflict = written_class ConflictSerializableHistory s text_of_book.0 text_of_book.1 w.conflict text_of_book.2.classes_are.conflict_is

  text_verdict : TextSaysPassed w.verdict ↔ InClass RelativelySerializableHistory s
  text_verdict = text_class s text_of_book.0 text_of_book.1 w.verdict text_of_book.2.verdict_is

  text_nested : NestedFindings w
  text_nested =
      let c = text_of_book.0 in
      let r = text_of_book.1 in
      let k = text_of_book.2.classes_are in
      nested s (written_class SerialHistory s c r w.serial k.serial_is) (written_class RelativelyAtomicHistory s c r w.atomic k.atomic_is)
      (written_class RelativelySerialHistory s c r w.relserial k.relserial_is) text_conflict text_verdict

pub classes_nested : ClassesNested
unfolding rows operand_tests obey end_at command_at read_from read_commands read_by
classes_nested = record {
  calls = λ s serial atomic relserial conflict j x. nested s (tested_class SerialHistory s serial x.serial_is) (tested_class RelativelyAtomicHistory s atomic x.atomic_is)
      (tested_class RelativelySerialHistory s relserial x.relserial_is) (tested_class ConflictSerializableHistory s conflict x.conflict_is) (judged_class s j x.judgement_is);
  calls_any_cuts = λ s s' o conflict j c x. any_cuts s s' o (tested_class ConflictSerializableHistory s conflict c) (judged_class s' j x);
  deck_calls = λ s serial atomic relserial conflict j x. nested s (answered_class SerialHistory s serial x.serial_is) (answered_class RelativelyAtomicHistory s atomic x.atomic_is)
      (answered_class RelativelySerialHistory s relserial x.relserial_is) (answered_class ConflictSerializableHistory s conflict x.conflict_is) (deck_judged_class s j x.judgement_is);
  deck_any_cuts = λ s s' o conflict j c x. any_cuts s s' o (answered_class ConflictSerializableHistory s conflict c) (deck_judged_class s' j x);
  text = text_nested;
  text_any_cuts = λ s s' o before after before' after' n n' p p' w w' e e'. any_cuts s s' o (text_conflict s before after n p w e) (text_verdict s' before' after' n' p' w' e');
  wider_3 = row_passed row_3 twelve_rows.each.1.1.0 twelve_rows.each.1.1.0.verdict_is.0 refl refl;
  wider_6 = row_passed row_6 twelve_rows.each.1.1.1.1.1.0 twelve_rows.each.1.1.1.1.1.0.verdict_is.0 refl refl;
  wider_8 = row_passed row_8 twelve_rows.each.1.1.1.1.1.1.1.0 twelve_rows.each.1.1.1.1.1.1.1.0.verdict_is.0 refl refl;
}
