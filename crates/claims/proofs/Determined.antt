-- Each public call's contract has one result, the judge's choice of a cycle apart.
use Rattle.std.specs.Prelude.{Result, Err, Ok}
use Prim.Native.Nat.{ℕ, ◌+◌, ◌-◌, ◌≤◌, ◌<◌}
use native.Mathlib.Decide.{dec_lt, ℕ_discrete}
use native.Mathlib.Omega.{arith}
use mathlib.Core.Path.{◌≡◌, refl, ap, ap₂, sym, subst, ◌∙◌}
use mathlib.Core.Logic.{◌⊎◌, inl, inr, ◌≢◌}
use mathlib.Core.Bool.{Bool, true, false}
use mathlib.Core.List.{List}
use lib.ListN.{length, drop}
use lib.Seq.{drop-append_seam}
use Rattle.bits.specs.Table.{row_bits, rows, bit_at}
use Rattle.bits.proofs.Store.{bit_at_lt}
use Rattle.theory.specs.Deck.{Pair, Step, conflict}
use Rattle.theory.specs.Relative.{Depends, RelativelySerialOrder, RelativelySerializable}
use Rattle.theory.specs.Graph.{Greedy}
use Rattle.theory.specs.Rows.{Is}
use Rattle.theory.proofs.Places.{order_length}
use Rattle.theory.proofs.Greedy.{greedy_unique}
use Rattle.book.specs.Format.{Contents, Outcome, refused, accepted, kind_limit, step_limit, read}
use Rattle.book.specs.Meaning.{conflict_of, unit_of}
use Rattle.book.specs.Book.{contents_of, pairs_of, ReadAs}
use Rattle.book.specs.declared.Cause.{Cause}
use Rattle.book.specs.declared.Cause.TheVariants.{JudgeBufferShort, NoIsland}
use Rattle.book.specs.declared.Refusal.{Refusal}
use Rattle.book.proofs.Numbers.{cause_of, cause_back}
use Rattle.book.proofs.Determined.{determined}
use Rattle.dependence.specs.Marks.{Marks}
use Rattle.dependence.specs.Catalogue.{part_rows, Which, first_touches, second_touches, PartIs, PairedWith, Catalogued}
use Rattle.dependence.specs.Dependence.{StepsRead}
use Rattle.judge.specs.Judged.{JudgeAnswer, verdict_numbers, verdict_of, count_of, JudgedAs, JudgementAs}
use Rattle.judge.specs.Judge.{RefusedAs, OutcomeJudged, BytesJudged}
use Rattle.judge.specs.declared.Verdict.{Verdict}
use Rattle.judge.specs.declared.Verdict.TheVariants.{Passed, Tangled}
use Rattle.classes.specs.Tested.{Tested, tested_numbers, YesWhere, OutcomeTested}
use Rattle.names.specs.Names.{cycle_names}
use Rattle.names.specs.declared.ArcNames.{ArcNames}
use Rattle.evidence.specs.Named.{Named, named_numbers, OutcomeNamed}
use Rattle.writer.specs.Written.{Written, written_numbers}
use Rattle.plain.specs.Plain.{Call, Answer, place, withdrawn, taken_back, refused as refused_by}
use Rattle.gate.specs.Gate.{Replied, answer_of, reply_numbers, opening_numbers, book_of, state_of, OpenedAs, CalledAs, on_sound, on_damaged}
use Rattle.replay.specs.Replay.{Played, played_numbers, played_by, Replays}
use Rattle.gate.specs.declared.Gate.{Gate}
use Rattle.gate.specs.declared.Opened.{Opened}
use Rattle.gate.specs.declared.Reply.TheVariants.{Place, Withdrawn, TakenBack}
use Rattle.replay.specs.declared.Replayed.{Replayed}
use Rattle.plain.proofs.PlainGate.{single, single_calls}
use Rattle.gate.proofs.Unchanged.{same_record}
use Rattle.report.specs.Text.{Findings, Report, refused_at, accepted_with, Verdict as ReportVerdict, passed, tangled, text_of}
use Rattle.report.specs.Reporting.{VerdictOn, FindingsOn, ReportOn}
use Rattle.capi.specs.Numbers.{answered, judged, opened_gate, listed_islands, listed_steps}
use Rattle.capi.specs.declared.Judged.{Judged}
use Rattle.claims.specs.Demands.{judged_numbers}
use Rattle.claims.specs.Determined.{AtMostOne, AtMostOnePair, EqualButCycle, verdict_alone, without_cycle, cycle_in, cycle_of, SameBits, FromBlank, Determined, IslandsDetermined}
use Rattle.islands.specs.Islands.{Smallest, island_book, island_list, OutcomeListed, island_steps, OutcomeHistory, OutcomePart, IslandJudged}
use Rattle.claims.proofs.IslandNames.{dec_smallest, one_name_each, same_smallest, same_book}
use Rattle.claims.proofs.OnePass.{all_read}

-- ---- reading

one_reading : (o : Outcome) → AtMostOne (ReadAs o)
one_reading o (Ok b) (Ok b') w w' = ap Ok (determined b b' w.valid w'.valid (let z : contents_of b ≡ contents_of b' = cc (w.outcome, w'.outcome) in z))
one_reading o (Ok b) (Err refusal) w w' = let z : ◌≡◌ {A = ℕ} 0 1 = cc (w.outcome, w') in absurd (omega arith)
one_reading o (Err refusal) (Ok b) w w' = let z : ◌≡◌ {A = ℕ} 0 1 = cc (w, w'.outcome) in absurd (omega arith)
one_reading o (Err x) (Err y) w w' =
    let causes : x.cause ≡ y.cause = cc (w, w') in
    let places : x.place ≡ y.place = cc (w, w') in
    λ i. Err (record { cause = causes i; place = places i })

-- ---- judging

-- the order that takes the smallest ready place at each turn is one
one_order : (c : Contents) (l m : List ℕ) → RelativelySerialOrder (conflict_of c) (unit_of c) c.history l → RelativelySerialOrder (conflict_of c) (unit_of c) c.history m
    → Greedy (conflict_of c) (unit_of c) c.history l → Greedy (conflict_of c) (unit_of c) c.history m → l ≡ m
one_order c l m v w f g = greedy_unique (conflict_of c) (unit_of c) c.history l m f g
    (order_length c.history l v.equivalent.order ∙ sym (order_length c.history m w.equivalent.order))

-- a buffer is short, or both are long
Lengths : List ℕ → List ℕ → Type 0
Lengths order cycle = ((length order < step_limit) ⊎ (length cycle < step_limit)) ⊎ ((step_limit ≤ length order) × (step_limit ≤ length cycle))

long_or_short : (order cycle : List ℕ) → Lengths order cycle
unfolding Lengths
long_or_short order cycle = go (dec_lt (length order) step_limit) (dec_lt (length cycle) step_limit)
  where
    go : Dec (length order < step_limit) → Dec (length cycle < step_limit) → Lengths order cycle
    go (yes h) d = inl (inl h)
    go (no n) (yes h) = inl (inr h)
    go (no n) (no m) = inr (omega arith, omega arith)

module _ (order order' order'' cycle cycle' cycle'' : List ℕ) where
  judged_equal : (c : Contents) (v v' : Verdict) (n n' : ℕ) → JudgedAs (conflict_of c) (unit_of c) c.history order order' cycle cycle' v n
      → JudgedAs (conflict_of c) (unit_of c) c.history order order'' cycle cycle'' v' n' → EqualButCycle {A = Result Verdict Refusal} (Ok Tangled) (Ok v) (Ok v') n n' order' order'' cycle' cycle''
  judged_equal c Passed Passed n n' j k =
      let e = one_order c j.taken k.taken j.evidence k.evidence j.greedy k.greedy in
      record { verdicts = refl; orders = cc e; counts = λ t. cc; cycles = λ t. cc }
  judged_equal c Passed Tangled n n' j k = absurd (k.not_serializable j.serializable)
  judged_equal c Tangled Passed n n' j k = absurd (j.not_serializable k.serializable)
  judged_equal c Tangled Tangled n n' j k = record { verdicts = refl; orders = cc; counts = λ t. absurd (t refl); cycles = λ t. absurd (t refl) }

  answers_equal : (c : Contents) (r r' : JudgeAnswer) → JudgementAs (conflict_of c) (unit_of c) c.history order order' cycle cycle' r
      → JudgementAs (conflict_of c) (unit_of c) c.history order order'' cycle cycle'' r'
      → EqualButCycle (Ok Tangled) (verdict_of r) (verdict_of r') (count_of r) (count_of r') order' order'' cycle' cycle''
  answers_equal c (Ok a) (Ok b) j k = judged_equal c a.verdict b.verdict a.count b.count j k
  answers_equal c (Err refusal) r' j k = absurd j
  answers_equal c (Ok a) (Err refusal) j k = absurd k

  module _ (r r' : JudgeAnswer) where
    abbrev Equal : Type 0
    Equal = EqualButCycle (Ok Tangled) (verdict_of r) (verdict_of r') (count_of r) (count_of r') order' order'' cycle' cycle''

    refused_equal : (cause : Cause) (at : ℕ) → RefusedAs order order' cycle cycle' cause at r → RefusedAs order order'' cycle cycle'' cause at r' → Equal
    refused_equal cause at j k = record {
      verdicts = ap verdict_of (j.refusal ∙ sym k.refusal);
      orders = cc;
      counts = λ t. ap count_of (j.refusal ∙ sym k.refusal);
      cycles = λ t. cc;
    }

    outcome_equal : (o : Outcome) → OutcomeJudged order order' cycle cycle' o r → OutcomeJudged order order'' cycle cycle'' o r' → Equal
    outcome_equal (refused cause at) j k = refused_equal cause at j k
    outcome_equal (accepted c) j k = answers_equal c r r' j k

    bytes_equal : (s : List ℕ) → BytesJudged order order' cycle cycle' s r → BytesJudged order order'' cycle cycle'' s r' → Equal
    unfolding Lengths
    bytes_equal s j k = go (long_or_short order cycle)
      where
        go : Lengths order cycle → Equal
        go (inl h) = refused_equal JudgeBufferShort 0 (j.short h) (k.short h)
        go (inr h) = outcome_equal (read s) (j.long h.0 h.1) (k.long h.0 h.1)

module _ (order order' cycle cycle' : List ℕ) where
  judged_rest : (c : Contents) (v : Verdict) (n : ℕ) → JudgedAs (conflict_of c) (unit_of c) c.history order order' cycle cycle' v n → drop n cycle' ≡ drop n cycle
  judged_rest c Passed n j = cc
  judged_rest c Tangled n j = rw (j.cycle_is, j.count_is, drop-append_seam j.places (drop (length j.places) cycle))

  outcome_rest : (o : Outcome) (r : JudgeAnswer) → OutcomeJudged order order' cycle cycle' o r → drop (count_of r) cycle' ≡ drop (count_of r) cycle
  outcome_rest (refused cause at) r j = cc
  outcome_rest (accepted c) (Ok a) j = judged_rest c a.verdict a.count j
  outcome_rest (accepted c) (Err refusal) j = absurd j

  bytes_rest : (s : List ℕ) (r : JudgeAnswer) → BytesJudged order order' cycle cycle' s r → drop (count_of r) cycle' ≡ drop (count_of r) cycle
  unfolding Lengths
  bytes_rest s r j = go (long_or_short order cycle)
    where
      go : Lengths order cycle → drop (count_of r) cycle' ≡ drop (count_of r) cycle
      go (inl h) = outcome_rest (refused JudgeBufferShort 0) r (j.short h)
      go (inr h) = outcome_rest (read s) r (j.long h.0 h.1)

-- ---- islands

one_list : (o : Outcome) → AtMostOne (OutcomeListed o)
one_list (refused cause at) r r' w w' = w ∙ sym w'
one_list (accepted c) r r' w w' = w.is ∙ ap (λ (f : ℕ → ℕ). Ok (island_list f (length c.runs))) (one_name_each c w.name w'.name w.islands w'.islands) ∙ sym w'.is

one_history : (o : Outcome) (m : ℕ) → AtMostOne (OutcomeHistory o m)
one_history (refused cause at) m r r' w w' = w ∙ sym w'
one_history (accepted c) m r r' w w' = go (dec_smallest c w.name m)
  where
    go : Dec (Smallest c w.name m) → r ≡ r'
    go (yes k) =
        w.found k ∙ ap (λ (d : Contents). Ok (island_steps d.history)) (same_book c m w.name w'.name w.islands w'.islands)
        ∙ sym (w'.found (same_smallest c m w.name w'.name w.islands w'.islands k))
    go (no k) = w.no_island k ∙ sym (w'.no_island (λ s. k (same_smallest c m w'.name w.name w'.islands w.islands s)))

module _ (order order' order'' cycle cycle' cycle'' : List ℕ) (r r' : JudgeAnswer) (s : List ℕ) (m : ℕ) where
  part_equal : (o : Outcome) → OutcomePart order order' cycle cycle' o m r → OutcomePart order order'' cycle cycle'' o m r' → Equal order order' order'' cycle cycle' cycle'' r r'
  part_equal (refused cause at) j k = refused_equal order order' order'' cycle cycle' cycle'' r r' cause at j k
  part_equal (accepted c) j k = go (dec_smallest c j.name m)
    where
      go : Dec (Smallest c j.name m) → Equal order order' order'' cycle cycle' cycle'' r r'
      go (yes w) = outcome_equal order order' order'' cycle cycle' cycle'' r r' (accepted (island_book c j.name m)) (j.found w)
          (subst (λ (d : Contents). OutcomeJudged order order'' cycle cycle'' (accepted d) r') (same_book c m k.name j.name k.islands j.islands)
          (k.found (same_smallest c m j.name k.name j.islands k.islands w)))
      go (no w) = refused_equal order order' order'' cycle cycle' cycle'' r r' NoIsland 0 (j.no_island w) (k.no_island (λ x. w (same_smallest c m k.name j.name k.islands j.islands x)))

  island_equal : IslandJudged order order' cycle cycle' s m r → IslandJudged order order'' cycle cycle'' s m r' → Equal order order' order'' cycle cycle' cycle'' r r'
  unfolding Lengths
  island_equal j k = go (long_or_short order cycle)
    where
      go : Lengths order cycle → Equal order order' order'' cycle cycle' cycle'' r r'
      go (inl h) = refused_equal order order' order'' cycle cycle' cycle'' r r' JudgeBufferShort 0 (j.short h) (k.short h)
      go (inr h) = part_equal (read s) (j.long h.0 h.1) (k.long h.0 h.1)

island_rest : (s : List ℕ) (m : ℕ) (order order' cycle cycle' : List ℕ) (r : JudgeAnswer) → IslandJudged order order' cycle cycle' s m r → drop (count_of r) cycle' ≡ drop (count_of r) cycle
unfolding Lengths
island_rest s m order order' cycle cycle' r j = go (long_or_short order cycle)
  where
    part : (o : Outcome) → OutcomePart order order' cycle cycle' o m r → drop (count_of r) cycle' ≡ drop (count_of r) cycle
    part (refused cause at) k = outcome_rest order order' cycle cycle' (refused cause at) r k
    part (accepted c) k = by (dec_smallest c k.name m)
      where
        by : Dec (Smallest c k.name m) → drop (count_of r) cycle' ≡ drop (count_of r) cycle
        by (yes w) = outcome_rest order order' cycle cycle' (accepted (island_book c k.name m)) r (k.found w)
        by (no w) = outcome_rest order order' cycle cycle' (refused NoIsland 0) r (k.no_island w)

    go : Lengths order cycle → drop (count_of r) cycle' ≡ drop (count_of r) cycle
    go (inl h) = outcome_rest order order' cycle cycle' (refused JudgeBufferShort 0) r (j.short h)
    go (inr h) = part (read s) (j.long h.0 h.1)

-- ---- testing

one_answer : (P : Type 0) → AtMostOne (YesWhere P)
one_answer P (Err refusal) r' w w' = absurd w
one_answer P (Ok true) (Err refusal) w w' = absurd w'
one_answer P (Ok true) (Ok true) w w' = refl
one_answer P (Ok true) (Ok false) w w' = absurd (w' w)
one_answer P (Ok false) (Err refusal) w w' = absurd w'
one_answer P (Ok false) (Ok true) w w' = absurd (w w')
one_answer P (Ok false) (Ok false) w w' = refl

one_test : (P : Contents → Type 0) (o : Outcome) → AtMostOne (OutcomeTested o P)
one_test P (refused cause at) r r' w w' = w.refusal ∙ sym w'.refusal
one_test P (accepted c) r r' w w' = one_answer (P c) r r' w w'

one_name : (N : Contents → ArcNames) (o : Outcome) → AtMostOne (OutcomeNamed o N)
one_name N (refused cause at) r r' w w' = w.refusal ∙ sym w'.refusal
one_name N (accepted c) r r' w w' = w ∙ sym w'

-- ---- step, withdraw and take back

-- the reply of an answer
abbrev pub reply_of : Answer → Replied
reply_of (place p) = Ok (Place p)
reply_of withdrawn = Ok Withdrawn
reply_of taken_back = Ok TakenBack
reply_of (refused_by n) = Err (cause_of n)

pub reply_back : (a : Replied) → reply_of (answer_of a) ≡ a
reply_back (Ok (Place p)) = refl
reply_back (Ok Withdrawn) = refl
reply_back (Ok TakenBack) = refl
reply_back (Err cause) = ap Err (cause_back cause)

one_call : (g : Gate) (x : Call) → AtMostOnePair (CalledAs g x)
one_call g x a a' h h' (on_sound y w) (on_sound y' w') =
    let e = single (book_of g) (state_of g) w.plain w'.plain in (
      sym (reply_back a) ∙ ap reply_of e.answers ∙ reply_back a',
      same_record h h' w.sound w'.sound (w.book ∙ sym w'.book) e.states,
    )
one_call g x a a' h h' (on_sound y w) (on_damaged n e f) = absurd (n y)
one_call g x a a' h h' (on_damaged n e f) (on_sound y w) = absurd (n y)
one_call g x a a' h h' (on_damaged n e f) (on_damaged n' e' f') = (e ∙ sym e', f ∙ sym f')

-- ---- opening and replay

one_opening : (o : Outcome) → AtMostOne (OpenedAs o)
one_opening o r r' w w' = λ i. record {
  answer = (w.answer ∙ sym w'.answer) i;
  gate = same_record r.gate r'.gate w.sound w'.sound (w.book ∙ sym w'.book) (w.state ∙ sym w'.state) i;
}

one_replay : (s calls before : List ℕ) → AtMostOnePair (Replays s calls before)
one_replay s calls before x x' r r' w w' =
    let e = w.played ∙ sym w'.played in
    let k = go (read s) r.played refl refl (sym e) in
    (k.0, λ i. record { played = e i; gate = same_record r.gate r'.gate w.sound w'.sound (w.book ∙ sym w'.book) k.1 i })
  where
    not_done : (x : Refusal) (p : Played) → p ≡ Err x → (n : ℕ) → p ≢ Ok n
    not_done x p e n f = let z : ◌≡◌ {A = ℕ} 0 1 = cc in omega arith

    go : (o : Outcome) (p : Played) → read s ≡ o → r.played ≡ p → r'.played ≡ p → (x ≡ x') × (state_of r.gate ≡ state_of r'.gate)
    go o (Err x) d e f =
        let u = w.refused_unchanged (not_done x r.played e) in
        let v = w'.refused_unchanged (not_done x r'.played f) in
        (u.buffer ∙ sym v.buffer, u.state ∙ sym v.state)
    go (refused cause at) (Ok n) d e f = let z : ◌≡◌ {A = ℕ} 0 1 = cc (ap (λ (o : Outcome). played_by o calls (length before)) d) in absurd (omega arith)
    go (accepted c) (Ok n) d e f =
        let u = w.calls_made c n d e in
        let v = w'.calls_made c n d f in
        (u.buffer _ _ u.demand.plain ∙ sym (v.buffer _ _ u.demand.plain), (single_calls c u.demand.plain v.demand.plain).1)

-- ---- report

one_truth : (P : Type 0) → AtMostOne (λ (b : Bool). Is b P)
one_truth P true true w w' = refl
one_truth P true false w w' = absurd (w' w)
one_truth P false true w w' = absurd (w w')
one_truth P false false w w' = refl

one_verdict : (c : Contents) (v v' : ReportVerdict) → VerdictOn c v → VerdictOn c v' → verdict_alone v ≡ verdict_alone v'
one_verdict c (passed l) (passed m) w w' = ap passed (one_order c l m w.0 w'.0 w.1 w'.1)
one_verdict c (passed l) (tangled m ns) w w' = absurd (w'.0 (record { order = l; evidence = w.0 }))
one_verdict c (tangled l ns) (passed m) w w' = absurd (w.0 (record { order = m; evidence = w'.0 }))
one_verdict c (tangled l ns) (tangled m ks) w w' = refl

-- a report with these findings and this verdict in place of theirs
with_verdict : Findings → ReportVerdict → Report
with_verdict v x = accepted_with (record { done = v.done; serial = v.serial; atomic = v.atomic; relserial = v.relserial; conflict = v.conflict; verdict = x })

one_findings : (c : Contents) (v v' : Findings) → FindingsOn c v → FindingsOn c v' → {x x' : ReportVerdict} → x ≡ x' → with_verdict v x ≡ with_verdict v' x'
unfolding with_verdict
one_findings c v v' w w' e =
    let k = w.classes_are in
    let k' = w'.classes_are in
    λ i. accepted_with (record {
      done = (w.done_is ∙ sym w'.done_is) i;
      serial = one_truth _ v.serial v'.serial k.serial_is k'.serial_is i;
      atomic = one_truth _ v.atomic v'.atomic k.atomic_is k'.atomic_is i;
      relserial = one_truth _ v.relserial v'.relserial k.relserial_is k'.relserial_is i;
      conflict = one_truth _ v.conflict v'.conflict k.conflict_is k'.conflict_is i;
      verdict = e i;
    })

one_report : (o : Outcome) (v v' : Report) → ReportOn o v → ReportOn o v' → without_cycle v ≡ without_cycle v'
unfolding with_verdict
one_report (refused cause at) v v' w w' = ap without_cycle (w ∙ sym w')
one_report (accepted c) (refused_at n at) v' w w' = absurd w
one_report (accepted c) (accepted_with f) (refused_at n at) w w' = absurd w'
one_report (accepted c) (accepted_with v) (accepted_with v') w w' = one_findings c v v' w w' (one_verdict c v.verdict v'.verdict w.verdict_is w'.verdict_is)

-- without a cycle, a report is whole
whole_verdict : (c : Contents) → RelativelySerializable (conflict_of c) (unit_of c) c.history → (v : ReportVerdict) → VerdictOn c v → verdict_alone v ≡ v
whole_verdict c h (passed l) w = refl
whole_verdict c h (tangled l ns) w = absurd (w.0 h)

whole_report : (o : Outcome) → ((c : Contents) → o ≡ accepted c → RelativelySerializable (conflict_of c) (unit_of c) c.history) → (v : Report) → ReportOn o v → without_cycle v ≡ v
whole_report o h (refused_at n at) w = refl
whole_report (refused cause at) h (accepted_with v) w = let z : ◌≡◌ {A = ℕ} 0 1 = cc in absurd (omega arith)
whole_report (accepted c) h (accepted_with v) w =
    λ i. accepted_with (record { done = v.done; serial = v.serial; atomic = v.atomic; relserial = v.relserial; conflict = v.conflict; verdict = whole_verdict c (h c refl) v.verdict w.verdict_is i })

-- reports with one cycle are equal
cyclic_verdict : (c : Contents) (v v' : ReportVerdict) → VerdictOn c v → VerdictOn c v' → verdict_alone v ≡ verdict_alone v' → cycle_in v ≡ cycle_in v' → v ≡ v'
cyclic_verdict c (passed l) (passed m) w w' a e = a
cyclic_verdict c (passed l) (tangled m ns) w w' a e = absurd (w'.0 (record { order = l; evidence = w.0 }))
cyclic_verdict c (tangled l ns) (passed m) w w' a e = absurd (w.0 (record { order = m; evidence = w'.0 }))
cyclic_verdict c (tangled l ns) (tangled m ks) w w' a e =
    ap₂ tangled e (w.2 ∙ ap (cycle_names (conflict_of c) (unit_of c) c.history) e ∙ sym w'.2)

cyclic_report : (o : Outcome) (v v' : Report) → ReportOn o v → ReportOn o v' → cycle_of v ≡ cycle_of v' → v ≡ v'
unfolding with_verdict
cyclic_report (refused cause at) v v' w w' e = w ∙ sym w'
cyclic_report (accepted c) (refused_at n at) v' w w' e = absurd w
cyclic_report (accepted c) (accepted_with f) (refused_at n at) w w' e = absurd w'
cyclic_report (accepted c) (accepted_with v) (accepted_with v') w w' e =
    one_findings c v v' w w' (cyclic_verdict c v.verdict v'.verdict w.verdict_is w'.verdict_is (one_verdict c v.verdict v'.verdict w.verdict_is w'.verdict_is) e)

-- ---- tables

-- two bits that are 1 together are the same
one_bit : (b b' : ℕ) → b < 2 → b' < 2 → (b ≡ 1 → b' ≡ 1) → (b' ≡ 1 → b ≡ 1) → b ≡ b'
one_bit b b' l l' f g = go (ℕ_discrete b 1) (ℕ_discrete b' 1)
  where
    go : Dec (b ≡ 1) → Dec (b' ≡ 1) → b ≡ b'
    go (yes e) d = e ∙ sym (f e)
    go (no n) (yes e) = absurd (n (g e))
    go (no n) (no m) = omega arith

module _ (t t' : List ℕ) where
  -- at one row and column
  same_at : (x y : ℕ) (P : Type 0) → (bit_at t y x ≡ 1 → P) → (P → bit_at t y x ≡ 1) → (bit_at t' y x ≡ 1 → P) → (P → bit_at t' y x ≡ 1) → bit_at t y x ≡ bit_at t' y x
  same_at x y P f g f' g' = one_bit (bit_at t y x) (bit_at t' y x) (bit_at_lt t y x) (bit_at_lt t' y x) (λ e. g' (f e)) (λ e. g (f' e))

  marks_same : (R : ℕ → ℕ → Type 0) → Marks R t → Marks R t' → SameBits t t'
  marks_same R m m' = record { same = λ x y a b. same_at x y (R x y) (m.sound x y a b) (m.complete x y a b) (m'.sound x y a b) (m'.complete x y a b) }

  module _ (pairs : List Pair) (w : Which) (runs : List (List Step)) (l : List ℕ) (k : Catalogued pairs w runs l t) (k' : Catalogued pairs w runs l t') where
    kind_row : (x v y : ℕ) → x < row_bits → v < kind_limit → part_rows + v ≡ y → bit_at t y x ≡ bit_at t' y x
    kind_row x v y a b e =
        rw (← e) (same_at x (part_rows + v) (PairedWith pairs w runs l x v) (k.kinds_sound x v a b) (k.kinds_complete x v a b) (k'.kinds_sound x v a b) (k'.kinds_complete x v a b))

    catalogues_same : SameBits t t'
    catalogues_same = record { same = λ x y a b. go x y a b (dec_lt y part_rows) (dec_lt y (part_rows + kind_limit)) }
      where
        go : (x y : ℕ) → x < row_bits → y < rows → Dec (y < part_rows) → Dec (y < part_rows + kind_limit) → bit_at t y x ≡ bit_at t' y x
        go x y a b (yes p) d = same_at x y (PartIs w runs l x y) (k.sound x y a p) (k.complete x y a p) (k'.sound x y a p) (k'.complete x y a p)
        go x y a b (no n) (yes q) = kind_row x (y - part_rows) y a (omega arith) (omega arith)
        go x y a b (no n) (no m) = k.no_more x y a (omega arith) b ∙ sym (k'.no_more x y a (omega arith) b)

read_from_blank : (pairs : List ℕ) (runs : List (List Step)) (l c s d : List ℕ) → FromBlank pairs runs l c s d → StepsRead (pairs_of pairs) runs l c s d
read_from_blank pairs runs l c s d w =
    all_read pairs runs w.catalogue w.seconds w.dep l c s d w.blank_catalogue w.blank_seconds w.blank_dep w.fed

fed_same : (pairs : List ℕ) (runs : List (List Step)) (l c c' s s' d d' : List ℕ) → FromBlank pairs runs l c s d → FromBlank pairs runs l c' s' d'
    → SameBits c c' × SameBits s s' × SameBits d d'
fed_same pairs runs l c c' s s' d d' w w' =
    let k = read_from_blank pairs runs l c s d w in
    let k' = read_from_blank pairs runs l c' s' d' w' in (
      catalogues_same c c' (pairs_of pairs) first_touches runs l k.firsts_catalogued k'.firsts_catalogued,
      catalogues_same s s' (pairs_of pairs) second_touches runs l k.seconds_catalogued k'.seconds_catalogued,
      marks_same d d' (Depends (conflict (pairs_of pairs) runs) l) k.so_far k'.so_far,
    )

-- ---- the calls for C

-- the numbers of equal answers
same_numbers : {A B : Type 0} (f : A → B) {a a' : A} {r r' : B} → r ≡ f a → r' ≡ f a' → a ≡ a' → r ≡ r'
same_numbers f e e' h = e ∙ ap f h ∙ sym e'

-- of equal answers of the judge
numbers_equal : (order' order'' cycle' cycle'' : List ℕ) (j j' : JudgeAnswer) (r r' : Judged) → r ≡ judged (verdict_numbers (verdict_of j)) (count_of j)
    → r' ≡ judged (verdict_numbers (verdict_of j')) (count_of j')
    → EqualButCycle (Ok Tangled) (verdict_of j) (verdict_of j') (count_of j) (count_of j') order' order'' cycle' cycle''
    → EqualButCycle (verdict_numbers (Ok Tangled)) (judged_numbers r) (judged_numbers r') r.count r'.count order' order'' cycle' cycle''
numbers_equal order' order'' cycle' cycle'' j j' r r' w w' e =
    let numbers = ap judged_numbers w in
    let count : Judged → ℕ = λ j. j.count in
    record {
      verdicts = same_numbers verdict_numbers numbers (ap judged_numbers w') e.verdicts;
      orders = e.orders;
      counts = λ t. ap count w ∙ e.counts (λ f. t (numbers ∙ ap verdict_numbers f)) ∙ sym (ap count w');
      cycles = λ t. e.cycles (λ f. t (numbers ∙ ap verdict_numbers f));
    }

-- ---- all of them

pub all_determined : Determined
all_determined = record {
  reading = one_reading;
  judging = λ s order order' order'' cycle cycle' cycle'' r r' w w'. bytes_equal order order' order'' cycle cycle' cycle'' r r' s w w';
  judging_rest = λ s order order' cycle cycle' r w. bytes_rest order order' cycle cycle' s r w;
  testing = λ P s r r' w w'. one_test P (read s) r r' w.tested w'.tested;
  naming = λ N s r r' w w'. one_name N (read s) r r' w.named w'.named;
  writing = λ s before x x' r r' w w'. (w.buffer ∙ sym w'.buffer, w.answer ∙ sym w'.answer);
  opening = one_opening;
  calling = one_call;
  replaying = one_replay;
  reporting = λ o before x x' n n' w w'. one_report o w.report w'.report w.report_on w'.report_on;
  reporting_rest = λ o before x n w. rw (w.put.bytes, w.put.count) (drop-append_seam (text_of w.report) (drop (length (text_of w.report)) before));
  reporting_uncyclic = λ o before h x x' n n' w w'.
      let e : text_of w.report ≡ text_of w'.report = ap text_of (cc (whole_report o h w.report w.report_on, one_report o w.report w'.report w.report_on w'.report_on, whole_report o h w'.report w'.report_on)) in
      (cc (e, w.put.bytes, w'.put.bytes), cc (e, w.put.count, w'.put.count));
  reporting_cyclic = λ o before x x' n n' w w' f.
      let e : text_of w.report ≡ text_of w'.report = ap text_of (cyclic_report o w.report w'.report w.report_on w'.report_on f) in
      (cc (e, w.put.bytes, w'.put.bytes), cc (e, w.put.count, w'.put.count));
  marking = λ R t t' m m'. marks_same t t' R m m';
  feeding = fed_same;
  c_reading = λ s r r' w w'. w.numbers ∙ sym w'.numbers;
  c_judging = λ s order order' order'' cycle cycle' cycle'' r r' w w'. numbers_equal order' order'' cycle' cycle'' w.judgement w'.judgement r r' w.numbers w'.numbers
      (bytes_equal order order' order'' cycle cycle' cycle'' w.judgement w'.judgement s w.promise w'.promise);
  c_judging_rest = λ s order order' cycle cycle' r w. rw w.numbers (bytes_rest order order' cycle cycle' s w.judgement w.promise);
  c_testing = λ P s r r' w w'. same_numbers (λ (t : Tested). answered (tested_numbers t)) w.numbers w'.numbers
      (one_test P (read s) w.tested w'.tested w.promise.tested w'.promise.tested);
  c_naming = λ N s r r' w w'. same_numbers (λ (t : Named). answered (named_numbers t)) w.numbers w'.numbers
      (one_name N (read s) w.named w'.named w.promise.named w'.promise.named);
  c_writing = λ s before x x' r r' w w'. (
    w.promise.buffer ∙ sym w'.promise.buffer,
    same_numbers (λ (t : Written). answered (written_numbers t)) w.numbers w'.numbers (w.promise.answer ∙ sym w'.promise.answer),
  );
  c_opening = λ s r r' w w'. same_numbers (λ (t : Opened). opened_gate (opening_numbers t.answer) t.gate) w.numbers w'.numbers
      (one_opening (read s) w.opened w'.opened w.promise w'.promise);
  c_calling = λ x g h h' r r' w w'.
      let e = one_call g x w.reply w'.reply h h' w.promise w'.promise in
      (e.1, same_numbers (λ (t : Replied). answered (reply_numbers t)) w.numbers w'.numbers e.0);
  c_replaying = λ s calls before x x' r r' w w'.
      let e = one_replay s calls before x x' w.replayed w'.replayed w.promise w'.promise in
      (e.0, same_numbers (λ (t : Replayed). answered (played_numbers t.played)) w.numbers w'.numbers e.1);
}

pub islands_determined : IslandsDetermined
islands_determined = record {
  listing = λ s r r' w w'. one_list (read s) r r' w.listed w'.listed;
  dividing = λ s m r r' w w'. one_history (read s) m r r' w.history w'.history;
  judging_island = λ s m order order' order'' cycle cycle' cycle'' r r' w w'. island_equal order order' order'' cycle cycle' cycle'' r r' s m w w';
  judging_island_rest = island_rest;
  c_listing = λ s r r' w w'. same_numbers listed_islands w.numbers w'.numbers (one_list (read s) w.islands w'.islands w.promise.listed w'.promise.listed);
  c_dividing = λ s m r r' w w'. same_numbers listed_steps w.numbers w'.numbers (one_history (read s) m w.steps w'.steps w.promise.history w'.promise.history);
  c_judging_island = λ s m order order' order'' cycle cycle' cycle'' r r' w w'. numbers_equal order' order'' cycle' cycle'' w.judgement w'.judgement r r' w.numbers w'.numbers
      (island_equal order order' order'' cycle cycle' cycle'' w.judgement w'.judgement s m w.promise w'.promise);
  c_judging_island_rest = λ s m order order' cycle cycle' r w. rw w.numbers (island_rest s m order order' cycle cycle' w.judgement w.promise);
}
