-- Demand 1: each call's refusals are the rows of the documents' table. A call that reads a book is refused as the book is, by table's
-- proofs/BookTable; a call's own rows are the cases of its contract.
use Rattle.std.specs.Prelude.{Result, Err, Ok}
use Prim.Native.Nat.{ℕ, suc, ◌+◌, ◌*◌, ◌≤◌, ◌<◌}
use native.Mathlib.Decide.{ℕ_discrete}
use native.Mathlib.Omega.{arith}
use mathlib.Core.Path.{◌≡◌, refl, ap, sym, subst, ◌∙◌}
use mathlib.Core.Bool.{Bool, true, false}
use mathlib.Core.Logic.{◌≢◌}
use mathlib.Core.List.{List, [], ◌∷◌}
use borrow.Author.Tests.{leb-true, leb-false, eqb-true, eqb-false, eq-eqb, ne_eqb}
use lib.ListN.{length}
use lib.Dec.{eqb, leb}
use Rattle.buffer.specs.Put.{Put}
use Rattle.book.specs.Format.{Contents, Outcome, refused, accepted, pick, read}
use Rattle.book.specs.Numbers.{number, Numbers, refused_with, value_of, reading_numbers}
use Rattle.book.specs.Book.{refusal_at, contents_of, outcome_of, ReadAs}
use Rattle.book.specs.declared.Cause.{Cause}
use Rattle.book.specs.declared.Cause.TheVariants.{WriterBufferShort, NoCall, AnswersShort, Damaged}
use Rattle.book.specs.declared.Book.{Book}
use Rattle.book.specs.declared.Refusal.{Refusal as RefusalValue}
use Rattle.writer.specs.Written.{Written, written_numbers, written_by, buffer_by, Wrote}
use Rattle.judge.specs.Judged.{JudgeAnswer, verdict_numbers, count_of, verdict_of}
use Rattle.judge.specs.Judge.{OutcomeJudged, BytesJudged}
use Rattle.classes.specs.Tested.{Tested, tested_numbers, YesWhere, OutcomeTested, TestedAs}
use Rattle.names.specs.Names.{names_value}
use Rattle.names.specs.declared.ArcNames.{ArcNames}
use Rattle.evidence.specs.Named.{Named, named_numbers, OutcomeNamed, NamedAs}
use Rattle.plain.specs.Plain.{Call, step, withdraw, take_back, Answer, refused as refused_by_number, State, PlainCall, step_refused, step_tangled, step_kept, withdraw_refused, withdraws, take_back_refused, takes_back, Refusal, not_declared, was_withdrawn, all_kept, TakeBackRefusal, undeclared, was_taken_back}
use Rattle.gate.specs.Gate.{Replied, answer_of, reply_numbers, book_of, state_of, Sound, opening_numbers, opening_answer, opened_book, OpenedAs, CalledAs, on_sound, on_damaged}
use Rattle.replay.specs.Replay.{Played, is_call, calls_of, bad_at, played_numbers, played_by, Replays}
use Rattle.gate.specs.declared.Gate.{Gate}
use Rattle.gate.specs.declared.Opened.{Opened}
use Rattle.replay.specs.declared.Replayed.{Replayed}
use Rattle.gate.specs.declared.Reply.TheVariants.{Place, Withdrawn, TakenBack}
use Rattle.plain.proofs.PlainGate.{single}
use Rattle.gate.proofs.Unchanged.{refused_unchanged}
use Rattle.replay.proofs.Replays.{whole_calls}
use Rattle.report.specs.Text.{Findings, Report, refused_at, accepted_with, text_of}
use Rattle.report.specs.Reporting.{ReportOn, Reports}
use Rattle.table.specs.BookTable.{BookRow, NoRow}
use Rattle.claims.specs.Table.{JudgeRow, order_short, cycle_short, judged_book, WriterRow, written_book, shorter_than_the_book, run_called, StepsOrWithdraws, is_step, is_withdrawal, GateRow, row_20, row_21, row_22, row_23, row_26, row_32, NoCallAt, cut_off, none_of_them, behind_53, behind_57, behind_54, ReplayRow, replayed_book, no_call, answers_short}
use Rattle.claims.specs.Demands.{TurnsAway, BuffersUnchanged, AnswersUnchanged, WithoutRuns, Demand1}
use Rattle.table.proofs.BookTable.{refused_row, row_refused, row_numbered, row_single, accepted_no_row}
use Rattle.claims.proofs.Turned.{turned, carried, without_value, same_rows, book_refused, book_accepted, outcome_turns}
use Rattle.claims.proofs.JudgeRefusals.{JudgeRowBy, short_first, short_second, behind_12, by_buffers, buffers_unchanged, judged_carried}
use Rattle.claims.proofs.EachNumber.{each_number}

-- ---- calls that read a book and have no refusal of their own

read_turns : (s : List ℕ) (r : Result Book RefusalValue) → ReadAs (read s) r → TurnsAway (BookRow s) (reading_numbers (outcome_of r)) ((b : Book) → r ≢ Ok b)
read_turns s (Ok b) h = outcome_turns s ((k : Book) → Ok b ≢ Ok k) (accepted (contents_of b)) h.outcome (λ cause at e. let z : ◌≡◌ {A = ℕ} 0 1 = cc in absurd (omega arith))
read_turns s (Err refusal) h =
    outcome_turns s ((k : Book) → Err refusal ≢ Ok k) (refused refusal.cause refusal.place) h (λ cause at e k f. let z : ◌≡◌ {A = ℕ} 0 1 = cc in omega arith)

module _ (P : Contents → Type 0) (s : List ℕ) where
  test_accepted : (c : Contents) → read s ≡ accepted c → (r : Tested) → YesWhere (P c) r → TurnsAway (BookRow s) (tested_numbers r) (Unit {0})
  test_accepted c e (Err refusal) t = absurd t
  test_accepted c e (Ok true) t = book_accepted s (Unit {0}) c (value_of 1) e refl
  test_accepted c e (Ok false) t = book_accepted s (Unit {0}) c (value_of 0) e refl

  test_turns : (r : Tested) → TestedAs P s r → TurnsAway (BookRow s) (tested_numbers r) (Unit {0})
  test_turns r h = go (read s) refl h.tested
    where
      go : (o : Outcome) → read s ≡ o → OutcomeTested o P r → TurnsAway (BookRow s) (tested_numbers r) (Unit {0})
      go (refused cause at) e t = rw t.refusal (book_refused s (Unit {0}) cause at e tt)
      go (accepted c) e t = test_accepted c e r t

name_turns : (N : Contents → ArcNames) (s : List ℕ) (r : Named) → NamedAs N s r → TurnsAway (BookRow s) (named_numbers r) (Unit {0})
name_turns N s r h = go (read s) refl h.named
  where
    go : (o : Outcome) → read s ≡ o → OutcomeNamed o N r → TurnsAway (BookRow s) (named_numbers r) (Unit {0})
    go (refused cause at) e t = rw t.refusal (book_refused s (Unit {0}) cause at e tt)
    go (accepted c) e t = rw t (book_accepted s (Unit {0}) c (value_of (names_value (N c))) e refl)

open_turns : (s : List ℕ) (o : Opened) → OpenedAs (read s) o → TurnsAway (BookRow s) (opening_numbers o.answer) (WithoutRuns o.gate)
open_turns s o h = rw h.answer (go (read s) refl h.book)
  where
    go : (x : Outcome) → read s ≡ x → book_of o.gate ≡ opened_book x → TurnsAway (BookRow s) (opening_numbers (opening_answer x)) (WithoutRuns o.gate)
    go (refused cause at) e b = book_refused s (WithoutRuns o.gate) cause at e (record { book = b; state = h.state })
    go (accepted c) e b = book_accepted s (WithoutRuns o.gate) c (value_of 0) e refl

-- ---- the judge

judge_turns : (s order order' cycle cycle' : List ℕ) (r : JudgeAnswer) → BytesJudged order order' cycle cycle' s r
    → TurnsAway (JudgeRow s order cycle) (verdict_numbers (verdict_of r)) (BuffersUnchanged order order' cycle cycle' (count_of r))
judge_turns s order order' cycle cycle' r j = same_rows to from (by_buffers (BookRow s) order order' cycle cycle' r j.short (λ a b. go (read s) refl (j.long a b)))
  where
    to : (m at : ℕ) → JudgeRowBy (BookRow s) order cycle m at → JudgeRow s order cycle m at
    to _ _ (short_first l) = order_short l
    to _ _ (short_second l) = cycle_short l
    to _ _ (behind_12 a b x) = judged_book a b x

    from : (m at : ℕ) → JudgeRow s order cycle m at → JudgeRowBy (BookRow s) order cycle m at
    from _ _ (order_short l) = short_first l
    from _ _ (cycle_short l) = short_second l
    from _ _ (judged_book a b x) = behind_12 a b x

    go : (o : Outcome) → read s ≡ o → OutcomeJudged order order' cycle cycle' o r → TurnsAway (BookRow s) (verdict_numbers (verdict_of r)) (BuffersUnchanged order order' cycle cycle' (count_of r))
    go (refused cause at) e k = rw k.numbers (book_refused s (BuffersUnchanged order order' cycle cycle' (count_of r)) cause at e (buffers_unchanged (BookRow s) order order' cycle cycle' r cause at k))
    go (accepted c) e k = judged_carried (BookRow s) order order' cycle cycle' r c k (accepted_no_row s c e)

-- ---- the writer

module _ (s out out' : List ℕ) where
  abbrev WriterTurns : Written → Type 0
  WriterTurns x = TurnsAway (WriterRow s out) (written_numbers x) (out' ≡ out)

  module _ (c : Contents) (e : read s ≡ accepted c) where
    only_13 : (m at : ℕ) → WriterRow s out m at → (13 ≡ m) × (0 ≡ at)
    only_13 m at (written_book x) = absurd (accepted_no_row s c e m at x)
    only_13 m at (shorter_than_the_book x l) = (refl, refl)

    not_shorter : length s ≤ length out → (m at : ℕ) → ¬ WriterRow s out m at
    not_shorter h m at (written_book x) = accepted_no_row s c e m at x
    not_shorter h m at (shorter_than_the_book x l) = omega arith

    write_accepted : (fits : Bool) → leb (length s) (length out) ≡ fits → out' ≡ buffer_by (pick fits (Ok (length s)) (Err (refusal_at WriterBufferShort 0))) s out
        → WriterTurns (pick fits (Ok (length s)) (Err (refusal_at WriterBufferShort 0)))
    write_accepted true q b = carried (WriterRow s out) (out' ≡ out) (value_of (length s)) refl (not_shorter (leb-true (length s) (length out) q))
    write_accepted false q b =
        turned (WriterRow s out) (out' ≡ out) (refused_with WriterBufferShort 0) (shorter_than_the_book (accepted_no_row s c e) (leb-false (length s) (length out) q)) refl b only_13

  write_turns : (r : Written) → Wrote s out out' r → WriterTurns r
  write_turns r w = rw w.answer (go (read s) refl w.buffer)
    where
      go : (o : Outcome) → read s ≡ o → out' ≡ buffer_by (written_by o s (length out)) s out → WriterTurns (written_by o s (length out))
      go (refused cause at) e b =
          let row = refused_row s cause at e in
          turned (WriterRow s out) (out' ≡ out) (refused_with cause at) (written_book row) refl b (λ m p x. as_book row m p x)
        where
          as_book : BookRow s (number cause) at → (m p : ℕ) → WriterRow s out m p → (number cause ≡ m) × (at ≡ p)
          as_book row m p (written_book x) = row_single s (number cause) m at p row x
          as_book row m p (shorter_than_the_book none l) = absurd (none (number cause) at row)
      go (accepted c) e b = write_accepted c e (leb (length s) (length out)) refl b

-- ---- step, withdraw and take back

refused_numbers : {n : ℕ} (a : Replied) → answer_of a ≡ refused_by_number n → ((reply_numbers a).number ≡ n) × ((reply_numbers a).place ≡ 0)
refused_numbers (Ok (Place p)) e = let z : ◌≡◌ {A = ℕ} 0 1 = cc in absurd (omega arith)
refused_numbers (Ok Withdrawn) e = let z : ◌≡◌ {A = ℕ} 0 1 = cc in absurd (omega arith)
refused_numbers (Ok TakenBack) e = let z : ◌≡◌ {A = ℕ} 0 1 = cc in absurd (omega arith)
refused_numbers (Err cause) e = (cc, refl)

module _ (g : Gate) (y : Sound g) where
  -- a row that applies is a rule of the plain gate
  row_rule : (x : Call) {m at : ℕ} → GateRow g x m at → PlainCall (book_of g) (state_of g) x (refused_by_number m) (state_of g) × (at ≡ 0)
  row_rule (step r) (row_20 z d) = (step_refused (not_declared d), refl)
  row_rule (withdraw r) (row_20 z d) = (withdraw_refused (not_declared d), refl)
  row_rule (take_back r) (row_20 z d) = (take_back_refused (undeclared d), refl)
  row_rule (step r) (row_21 z is_step d w) = (step_refused (was_withdrawn d w), refl)
  row_rule (withdraw r) (row_21 z is_withdrawal d w) = (withdraw_refused (was_withdrawn d w), refl)
  row_rule (step r) (row_22 z is_step d w l) = (step_refused (all_kept d w l), refl)
  row_rule (withdraw r) (row_22 z is_withdrawal d w l) = (withdraw_refused (all_kept d w l), refl)
  row_rule (take_back r) (row_21 z k d w) = elim k [ ]
  row_rule (take_back r) (row_22 z k d w l) = elim k [ ]
  row_rule (step r) (row_23 z e t) = (step_tangled e t, refl)
  row_rule (take_back r) (row_32 z d w) = (take_back_refused (was_taken_back d w), refl)
  row_rule x (row_26 n) = absurd (n y)

  -- and back
  refusal_row : (x : Call) (r : ℕ) → run_called x ≡ r → StepsOrWithdraws r x → {cause : Cause} → Refusal (book_of g) (state_of g) r cause → GateRow g x (number cause) 0
  refusal_row x r e k (not_declared d) = row_20 {x = x} y (rw e d)
  refusal_row x r e k (was_withdrawn d w) = row_21 y k d w
  refusal_row x r e k (all_kept d w l) = row_22 y k d w l

  take_back_row : (r : ℕ) {cause : Cause} → TakeBackRefusal (book_of g) (state_of g) r cause → GateRow g (take_back r) (number cause) 0
  take_back_row r (undeclared d) = row_20 y d
  take_back_row r (was_taken_back d w) = row_32 y d w

  rule_row : {x : Call} {a : Answer} {h : State} (n : ℕ) → PlainCall (book_of g) (state_of g) x a h → a ≡ refused_by_number n → GateRow g x n 0
  rule_row {x} n (step_refused {r = r} {cause = cause} p) e = let q : number cause ≡ n = cc in subst (λ (k : ℕ). GateRow g x k 0) q (refusal_row x r refl is_step p)
  rule_row {x} n (step_tangled p t) e = let q : 23 ≡ n = cc in subst (λ (k : ℕ). GateRow g x k 0) q (row_23 y p t)
  rule_row n (step_kept p t) e = let z : ◌≡◌ {A = ℕ} 0 1 = cc in absurd (omega arith)
  rule_row {x} n (withdraw_refused {r = r} {cause = cause} p) e = let q : number cause ≡ n = cc in subst (λ (k : ℕ). GateRow g x k 0) q (refusal_row x r refl is_withdrawal p)
  rule_row n (withdraws p) e = let z : ◌≡◌ {A = ℕ} 0 1 = cc in absurd (omega arith)
  rule_row {x} n (take_back_refused {r = r} {cause = cause} p) e = let q : number cause ≡ n = cc in subst (λ (k : ℕ). GateRow g x k 0) q (take_back_row r p)
  rule_row n (takes_back p) e = let z : ◌≡◌ {A = ℕ} 0 1 = cc in absurd (omega arith)

-- of a record that is not sound, 26 alone applies
only_26 : (g : Gate) → ¬ Sound g → {x : Call} {m at : ℕ} → GateRow g x m at → (26 ≡ m) × (0 ≡ at)
only_26 g n (row_20 y d) = absurd (n y)
only_26 g n (row_21 y k d w) = absurd (n y)
only_26 g n (row_22 y k d w l) = absurd (n y)
only_26 g n (row_23 y p t) = absurd (n y)
only_26 g n (row_32 y d w) = absurd (n y)
only_26 g n (row_26 z) = (refl, refl)

module _ (g h : Gate) (x : Call) where
  call_turns : (a : Replied) → CalledAs g x a h → TurnsAway (GateRow g x) (reply_numbers a) (h ≡ g)
  call_turns a (on_damaged n e f) = rw e (turned (GateRow g x) (h ≡ g) (refused_with Damaged 0) (row_26 n) refl f (λ m at r. only_26 g n r))
  call_turns a (on_sound y w) = record {
    row = λ z. go a z w.plain;
    no_value = λ z. none a z;
    unchanged = λ z. same a z (on_sound y w);
    refused_by = λ m at r.
        let p = row_rule g y x r in
        let e = (single (book_of g) (state_of g) w.plain p.0).answers in
        let q = refused_numbers a e in
        (q.0, q.1 ∙ sym p.1);
  }
    where
      go : (b : Replied) → (reply_numbers b).number ≢ 0 → PlainCall (book_of g) (state_of g) x (answer_of b) (state_of h) → GateRow g x (reply_numbers b).number (reply_numbers b).place
      go (Ok (Place p)) z c = absurd (z refl)
      go (Ok Withdrawn) z c = absurd (z refl)
      go (Ok TakenBack) z c = absurd (z refl)
      go (Err cause) z c = rule_row g y (number cause) c refl

      none : (b : Replied) → (reply_numbers b).number ≢ 0 → (reply_numbers b).value ≡ 0
      none (Ok (Place p)) z = absurd (z refl)
      none (Ok Withdrawn) z = refl
      none (Ok TakenBack) z = refl
      none (Err cause) z = refl

      same : (b : Replied) → (reply_numbers b).number ≢ 0 → CalledAs g x b h → h ≡ g
      same (Ok (Place p)) z c = absurd (z refl)
      same (Ok Withdrawn) z c = absurd (z refl)
      same (Ok TakenBack) z c = absurd (z refl)
      same (Err cause) z c = refused_unchanged g h x cause c

-- ---- the replay

-- the offset of a bad call lies in the list
bad_low : (at : ℕ) (bs : List ℕ) → bad_at at bs ≤ at + length bs
bad_low at [] = omega arith
bad_low at (o ∷ []) = omega arith
bad_low at (o ∷ r ∷ bs) = go (is_call o) (bad_low (at + 2) bs)
  where
    go : (b : Bool) → bad_at (at + 2) bs ≤ at + 2 + length bs → pick b (bad_at (at + 2) bs) at ≤ at + suc (suc (length bs))
    go true l = omega arith
    go false l = omega arith

-- a bad call by the table is the one that the function finds; the list stands at the offset k
no_call_bad : {at : ℕ} {bs : List ℕ} → NoCallAt bs at → (k : ℕ) → (bad_at k bs ≡ k + at) × (at < length bs)
no_call_bad cut_off k = (omega arith, omega arith)
no_call_bad (none_of_them {o} {r} {bs} n m p) k = let e : bad_at k (o ∷ r ∷ bs) ≡ k = rw (ne_eqb o 0x53 n, ne_eqb o 0x57 m, ne_eqb o 0x54 p) in (omega arith, omega arith)
no_call_bad (behind_53 b) k = let h = no_call_bad b (k + 2) in (omega (arith, h.0), omega (arith, h.1))
no_call_bad (behind_57 b) k = let h = no_call_bad b (k + 2) in (omega (arith, h.0), omega (arith, h.1))
no_call_bad (behind_54 b) k = let h = no_call_bad b (k + 2) in (omega (arith, h.0), omega (arith, h.1))

-- and back: the function's offset, of a list at the offset k, is the table's
abbrev Found : ℕ → List ℕ → Type 0
Found k bs = (at : ℕ) × ((bad_at k bs ≡ k + at) × NoCallAt bs at)

bad_found : (k : ℕ) (bs : List ℕ) → bad_at k bs < k + length bs → Found k bs
bad_found k [] h = absurd (omega arith)
bad_found k (o ∷ []) h = (0, (omega arith, cut_off))
bad_found k (o ∷ r ∷ bs) h = go (ℕ_discrete o 0x53) (ℕ_discrete o 0x57) (ℕ_discrete o 0x54) (bad_found (k + 2) bs)
  where
    further : ((at : ℕ) → NoCallAt bs at → NoCallAt (o ∷ r ∷ bs) (suc (suc at))) → bad_at k (o ∷ r ∷ bs) ≡ bad_at (k + 2) bs
        → (bad_at (k + 2) bs < k + 2 + length bs → Found (k + 2) bs) → Found k (o ∷ r ∷ bs)
    further g e f = let x = f (omega arith) in (suc (suc x.0), (omega (arith, x.1.0), g x.0 x.1.1))

    go : Dec (o ≡ 0x53) → Dec (o ≡ 0x57) → Dec (o ≡ 0x54) → (bad_at (k + 2) bs < k + 2 + length bs → Found (k + 2) bs) → Found k (o ∷ r ∷ bs)
    go (yes e) d c f = further (λ at b. rw e (behind_53 b)) (rw (eq-eqb o 0x53 e)) f
    go (no n) (yes e) c f = further (λ at b. rw e (behind_57 b)) (rw (ne_eqb o 0x53 n, eq-eqb o 0x57 e)) f
    go (no n) (no m) (yes e) f = further (λ at b. rw e (behind_54 b)) (rw (ne_eqb o 0x53 n, ne_eqb o 0x57 m, eq-eqb o 0x54 e)) f
    go (no n) (no m) (no p) f = let e : bad_at k (o ∷ r ∷ bs) ≡ k = rw (ne_eqb o 0x53 n, ne_eqb o 0x57 m, ne_eqb o 0x54 p) in (0, (omega arith, none_of_them n m p))

bad_no_call : (bs : List ℕ) → bad_at 0 bs < length bs → NoCallAt bs (bad_at 0 bs)
bad_no_call bs h = let x = bad_found 0 bs (omega arith) in let e : bad_at 0 bs ≡ x.0 = omega (arith, x.1.0) in rw e x.1.1

-- where the function finds none the table has none
no_bad_call : {at : ℕ} (bs : List ℕ) → eqb (bad_at 0 bs) (length bs) ≡ true → ¬ NoCallAt bs at
no_bad_call bs e n = let h = no_call_bad n 0 in omega (arith, h.0, h.1, eqb-true (bad_at 0 bs) (length bs) e)

-- and the list is two bytes a call
whole_bytes : (bs : List ℕ) → eqb (bad_at 0 bs) (length bs) ≡ true → length bs ≡ 2 * length (calls_of bs)
whole_bytes bs e = whole_calls 0 bs (omega (arith, eqb-true (bad_at 0 bs) (length bs) e))

module _ (s calls answers : List ℕ) (U : Type 0) where
  abbrev ReplayTurns : Played → Type 0
  ReplayTurns p = TurnsAway (ReplayRow s calls answers) (played_numbers p) U

  module _ (c : Contents) (e : read s ≡ accepted c) where
    abbrev by_room : Bool → Played
    by_room fits = pick fits (Ok (length (calls_of calls))) (Err (refusal_at AnswersShort 0))

    abbrev by_calls : Bool → Bool → Played
    by_calls whole fits = pick whole (by_room fits) (Err (refusal_at NoCall (bad_at 0 calls)))

    play_accepted : (whole fits : Bool) → eqb (bad_at 0 calls) (length calls) ≡ whole → leb (2 * length (calls_of calls)) (length answers) ≡ fits
        → (((n : ℕ) → by_calls whole fits ≢ Ok n) → U) → ReplayTurns (by_calls whole fits)
    play_accepted false fits p q u =
        turned (ReplayRow s calls answers) U (refused_with NoCall (bad_at 0 calls)) (no_call (accepted_no_row s c e) (bad_no_call calls low)) refl (u (λ n k. let z : ◌≡◌ {A = ℕ} 0 1 = cc in omega arith)) only_24
      where
        low : bad_at 0 calls < length calls
        low = let n : bad_at 0 calls ≢ length calls = eqb-false (bad_at 0 calls) (length calls) p in omega (arith, bad_low 0 calls)

        only_24 : (m at : ℕ) → ReplayRow s calls answers m at → (24 ≡ m) × (bad_at 0 calls ≡ at)
        only_24 m at (replayed_book x) = absurd (accepted_no_row s c e m at x)
        only_24 m at (no_call x l) = (refl, omega (arith, (no_call_bad l 0).0))
        only_24 m at (answers_short x k l) = absurd (k (bad_at 0 calls) (bad_no_call calls low))
    play_accepted true false p q u =
        turned (ReplayRow s calls answers) U (refused_with AnswersShort 0) (answers_short (accepted_no_row s c e) (λ at n. no_bad_call calls p n) (omega (arith, leb-false (2 * length (calls_of calls)) (length answers) q, whole_bytes calls p))) refl
        (u (λ n k. let z : ◌≡◌ {A = ℕ} 0 1 = cc in omega arith)) only_25
      where
        only_25 : (m at : ℕ) → ReplayRow s calls answers m at → (25 ≡ m) × (0 ≡ at)
        only_25 m at (replayed_book x) = absurd (accepted_no_row s c e m at x)
        only_25 m at (no_call x l) = absurd (no_bad_call calls p l)
        only_25 m at (answers_short x k l) = (refl, refl)
    play_accepted true true p q u = carried (ReplayRow s calls answers) U (value_of (length (calls_of calls))) refl no_row
      where
        no_row : (m at : ℕ) → ¬ ReplayRow s calls answers m at
        no_row m at (replayed_book x) = accepted_no_row s c e m at x
        no_row m at (no_call x l) = no_bad_call calls p l
        no_row m at (answers_short x k l) = omega (arith, leb-true (2 * length (calls_of calls)) (length answers) q, whole_bytes calls p)

  play_turns : (o : Outcome) → read s ≡ o → (((n : ℕ) → played_by o calls (length answers) ≢ Ok n) → U) → ReplayTurns (played_by o calls (length answers))
  play_turns (refused cause at) e u =
      let row = refused_row s cause at e in
      turned (ReplayRow s calls answers) U (refused_with cause at) (replayed_book row) refl (u (λ n k. let z : ◌≡◌ {A = ℕ} 0 1 = cc in omega arith)) (λ m p x. as_book row m p x)
    where
      as_book : BookRow s (number cause) at → (m p : ℕ) → ReplayRow s calls answers m p → (number cause ≡ m) × (at ≡ p)
      as_book row m p (replayed_book x) = row_single s (number cause) m at p row x
      as_book row m p (no_call none l) = absurd (none (number cause) at row)
      as_book row m p (answers_short none k l) = absurd (none (number cause) at row)
  play_turns (accepted c) e u = play_accepted c e (eqb (bad_at 0 calls) (length calls)) (leb (2 * length (calls_of calls)) (length answers)) refl refl u

replay_turns : (s calls answers answers' : List ℕ) (r : Replayed) → Replays s calls answers answers' r
    → TurnsAway (ReplayRow s calls answers) (played_numbers r.played) (AnswersUnchanged s answers answers' r.gate)
replay_turns s calls answers answers' r w =
    rw w.played (play_turns s calls answers (AnswersUnchanged s answers answers' r.gate) (read s) refl
    (λ n. let u = w.refused_unchanged (rw w.played n) in record { replay = u; book = w.book }))

-- where no row applies all calls are made
pub all_played : (s calls answers answers' : List ℕ) (r : Replayed) → Replays s calls answers answers' r → (c : Contents) → read s ≡ accepted c → ((m at : ℕ) → ¬ ReplayRow s calls answers m at)
    → r.played ≡ Ok (length (calls_of calls))
all_played s calls answers answers' r w c e none =
    w.played ∙ ap (λ (o : Outcome). played_by o calls (length answers)) e ∙ go (eqb (bad_at 0 calls) (length calls)) (leb (2 * length (calls_of calls)) (length answers)) refl refl
  where
    turns : (whole fits : Bool) → eqb (bad_at 0 calls) (length calls) ≡ whole → leb (2 * length (calls_of calls)) (length answers) ≡ fits
        → TurnsAway (ReplayRow s calls answers) (played_numbers (by_calls s calls answers (Unit {0}) c e whole fits)) (Unit {0})
    turns whole fits p q = play_accepted s calls answers (Unit {0}) c e whole fits p q (λ n. tt)

    go : (whole fits : Bool) → eqb (bad_at 0 calls) (length calls) ≡ whole → leb (2 * length (calls_of calls)) (length answers) ≡ fits
        → by_calls s calls answers (Unit {0}) c e whole fits ≡ Ok (length (calls_of calls))
    go true true p q = refl
    go true false p q = absurd (none 25 0 ((turns true false p q).row (λ z. omega arith)))
    go false fits p q = absurd (none 24 (bad_at 0 calls) ((turns false fits p q).row (λ z. omega arith)))

-- ---- the program's text

report_refused : (s text text' : List ℕ) (n : ℕ) → Reports (read s) text text' n → (m at : ℕ) → BookRow s m at → Put (text_of (refused_at m at)) text text' n
report_refused s text text' n w m at b =
    let q = row_refused s m at b in
    let o : ReportOn (refused q.0 at) w.report = rw q.1.0 at w.report_on in
    let f : w.report ≡ refused_at m at = o ∙ ap (λ (k : ℕ). refused_at k at) q.1.1 in
    rw f at w.put

report_accepted : (s text text' : List ℕ) (n : ℕ) → Reports (read s) text text' n → NoRow s → (f : Findings) × Put (text_of (accepted_with f)) text text' n
report_accepted s text text' n w none = go (read s) refl w.report w.report_on w.put
  where
    go : (o : Outcome) → read s ≡ o → (x : Report) → ReportOn o x → Put (text_of x) text text' n → (f : Findings) × Put (text_of (accepted_with f)) text text' n
    go (refused cause at) e x on put = absurd (none (number cause) at (refused_row s cause at e))
    go (accepted c) e (refused_at m at) on put = absurd on
    go (accepted c) e (accepted_with f) on put = (f, put)

-- ---- the demand

pub demand_1 : Demand1
demand_1 = record {
  book_refusals = row_numbered;
  each_refusal = each_number;
  read_bytes = read_turns;
  deck_read = λ s r h. rw h.numbers (outcome_turns s (Unit {0}) (read s) refl (λ cause at e. tt));
  judge_bytes = judge_turns;
  deck_judge = λ s order order' cycle cycle' r h. rw h.numbers (judge_turns s order order' cycle cycle' h.judgement h.promise);
  test_bytes = test_turns;
  deck_test = λ P s r h. rw h.numbers (test_turns P s h.tested h.promise);
  name_bytes = name_turns;
  deck_name = λ N s r h. rw h.numbers (name_turns N s h.named h.promise);
  write_bytes = write_turns;
  deck_write = λ s out out' r h. rw h.numbers (write_turns s out out' h.written h.promise);
  open_gate = open_turns;
  deck_open = λ s r h. rw h.numbers (without_value (BookRow s) (WithoutRuns h.opened.gate) (opening_numbers h.opened.answer) (open_turns s h.opened h.promise));
  call_gate = call_turns;
  deck_call = λ g h x r w. rw w.numbers (call_turns g h x w.reply w.promise);
  replay_calls = replay_turns;
  deck_replay = λ s calls answers answers' r h. rw h.numbers (buffer_alone (replay_turns s calls answers answers' h.replayed h.promise));
  report_refused = report_refused;
  report_accepted = report_accepted;
}
  where
    buffer_alone : {R : ℕ → ℕ → Type 0} {n : Numbers} {s answers answers' : List ℕ} {g : Gate} → TurnsAway R n (AnswersUnchanged s answers answers' g) → TurnsAway R n (answers' ≡ answers)
    buffer_alone t = record { row = t.row; no_value = t.no_value; unchanged = λ z. (t.unchanged z).replay.buffer; refused_by = t.refused_by }
