-- Old books give what they gave: their conflict is the earlier one, as a function, and a contract that speaks of the one speaks of the other.
use Rattle.std.specs.Prelude.{Ok}
use Prim.Native.Nat.{ℕ, ◌*◌, ◌≤◌, ◌<◌}
use native.Mathlib.Omega.{arith}
use mathlib.Core.Path.{◌≡◌, sym, subst, ◌∙◌}
use mathlib.Core.Logic.{◌⊎◌, inl, inr, ◌↔◌}
use mathlib.Core.Bool.{Bool}
use mathlib.Core.List.{List}
use lib.ListN.{length, take}
use Rattle.theory.specs.Deck.{Pair, Step, conflict}
use Rattle.theory.specs.Transfers.{before_transfers}
use Rattle.theory.specs.Homing.{before_homing}
use Rattle.theory.specs.Relative.{Depends}
use Rattle.theory.proofs.DeckLaws.{transfers, homing}
use Rattle.buffer.specs.Put.{Put}
use Rattle.book.specs.Format.{Contents, Outcome, accepted, step_limit, deck_rules, read}
use Rattle.book.specs.Meaning.{conflict_of, unit_of}
use Rattle.book.specs.Book.{pairs_of}
use Rattle.book.proofs.EarlierReader.{earlier_reader}
use Rattle.dependence.specs.Marks.{Marks}
use Rattle.judge.specs.Judged.{JudgeAnswer, JudgementAs}
use Rattle.judge.specs.Judge.{OutcomeJudged, BytesJudged}
use Rattle.classes.specs.Tested.{Tested, YesWhere, OutcomeTested, TestedAs}
use Rattle.names.specs.declared.ArcNames.{ArcNames}
use Rattle.evidence.specs.Named.{Named, OutcomeNamed, NamedAs}
use Rattle.plain.specs.Plain.{Call, newly_opened, PlainCall, PlainCallBy, PlainCallsBy}
use Rattle.gate.specs.Gate.{Replied, answer_of, book_of, state_of, Sound, CalledAs, on_sound}
use Rattle.replay.specs.Replay.{calls_of, answers_in, played_by, Replays}
use Rattle.gate.specs.declared.Gate.{Gate}
use Rattle.replay.specs.declared.Replayed.{Replayed}
use Rattle.gate.proofs.Records.{sound_call}
use Rattle.gate.proofs.Chained.{opened_plain}
use Rattle.report.specs.Text.{Report, refused_at, accepted_with, text_of}
use Rattle.report.specs.Reporting.{FindingsBy, ReportOn, Reports}
use Rattle.claims.specs.OldBooks.{earlier_of, ReportedBefore, ReplayedBefore, BookAsBefore, CalledBefore, RecordAsBefore, PassAsBefore, AsBefore, OldBooks}
use Rattle.claims.proofs.OnePass.{one_pass}

both_ways : {A : Type 0} (P : A → Type 0) {x y : A} → x ≡ y → P x ↔ P y
both_ways P e = (subst P e, subst P (sym e))

module _ (earlier : List Pair → List (List Step) → ℕ → ℕ → ℕ → ℕ → Bool) where
  module _ (s : List ℕ) (c : Contents) (book : read s ≡ accepted c) (same : conflict_of c ≡ earlier_of earlier c) where
    -- what is said of the outcome of reading is said of the contents
    of_contents : (P : Outcome → Type 0) → P (read s) ↔ P (accepted c)
    of_contents P = both_ways P book

    judged_before : (order order' cycle cycle' : List ℕ) (r : JudgeAnswer) → step_limit ≤ length order → step_limit ≤ length cycle
        → BytesJudged order order' cycle cycle' s r ↔ JudgementAs (earlier_of earlier c) (unit_of c) c.history order order' cycle cycle' r
    judged_before order order' cycle cycle' r lo lc = (
      λ w. there.0 (on.0 (w.long lo lc)),
      λ j. record { short = λ h. absurd (not_short h); long = λ _ _. on.1 (there.1 j) },
    )
      where
        on : OutcomeJudged order order' cycle cycle' (read s) r ↔ OutcomeJudged order order' cycle cycle' (accepted c) r
        on = of_contents (λ o. OutcomeJudged order order' cycle cycle' o r)

        there : JudgementAs (conflict_of c) (unit_of c) c.history order order' cycle cycle' r
            ↔ JudgementAs (earlier_of earlier c) (unit_of c) c.history order order' cycle cycle' r
        there = both_ways (λ k. JudgementAs k (unit_of c) c.history order order' cycle cycle' r) same

        not_short : (length order < step_limit) ⊎ (length cycle < step_limit) → ⊥
        not_short (inl h) = omega arith
        not_short (inr h) = omega arith

    tested_before : (P : (ℕ → ℕ → ℕ → ℕ → Bool) → Contents → Type 0) (r : Tested) → TestedAs (λ b. P (conflict_of b) b) s r ↔ TestedAs (λ b. P (earlier_of earlier b) b) s r
    tested_before P r = (
      λ w. record { tested = (of_contents Before).1 (there.0 ((of_contents Now).0 w.tested)) },
      λ w. record { tested = (of_contents Now).1 (there.1 ((of_contents Before).0 w.tested)) },
    )
      where
        Now : Outcome → Type 0
        Now o = OutcomeTested o (λ b. P (conflict_of b) b) r

        Before : Outcome → Type 0
        Before o = OutcomeTested o (λ b. P (earlier_of earlier b) b) r

        there : Now (accepted c) ↔ Before (accepted c)
        there = both_ways (λ k. YesWhere (P k c) r) same

    named_before : (N : (ℕ → ℕ → ℕ → ℕ → Bool) → Contents → ArcNames) (r : Named) → NamedAs (λ b. N (conflict_of b) b) s r ↔ NamedAs (λ b. N (earlier_of earlier b) b) s r
    named_before N r = (
      λ w. record { named = (of_contents Before).1 (there.0 ((of_contents Now).0 w.named)) },
      λ w. record { named = (of_contents Now).1 (there.1 ((of_contents Before).0 w.named)) },
    )
      where
        Now : Outcome → Type 0
        Now o = OutcomeNamed o (λ b. N (conflict_of b) b) r

        Before : Outcome → Type 0
        Before o = OutcomeNamed o (λ b. N (earlier_of earlier b) b) r

        there : Now (accepted c) ↔ Before (accepted c)
        there = both_ways (λ k. r ≡ Ok (N k c)) same

    reported_before : (text text' : List ℕ) (n : ℕ) → Reports (read s) text text' n ↔ ReportedBefore earlier c text text' n
    reported_before text text' n = (
      λ w. to w.report ((of_contents (λ o. ReportOn o w.report)).0 w.report_on) w.put,
      λ w. record {
        report = accepted_with w.findings;
        report_on = (of_contents (λ o. ReportOn o (accepted_with w.findings))).1 (subst (λ k. FindingsBy k c w.findings) (sym same) w.right);
        put = w.put;
      },
    )
      where
        to : (v : Report) → ReportOn (accepted c) v → Put (text_of v) text text' n → ReportedBefore earlier c text text' n
        to (refused_at m at) on p = absurd on
        to (accepted_with w) on p = record { findings = w; right = subst (λ k. FindingsBy k c w) same on; put = p }

    replayed_before : (calls answers answers' : List ℕ) (r : Replayed) (n : ℕ) → Replays s calls answers answers' r → played_by (read s) calls (length answers) ≡ Ok n
        → ReplayedBefore earlier c calls answers answers' (state_of r.gate)
    replayed_before calls answers answers' r n w e =
        let made = w.calls_made c n book (w.played ∙ e) in
        let given = answers_in (take (2 * length (calls_of calls)) answers') in
        let plain = made.demand.plain in
        record { given = given; reached = subst (λ k. PlainCallsBy k c newly_opened (calls_of calls) given (state_of r.gate)) same plain; buffer = made.buffer given _ plain }

    book_as_before : BookAsBefore earlier s c
    book_as_before = record {
      judging = judged_before;
      deck_judging = λ order order' cycle cycle' r lo lc. (
        λ w. record { judgement = w.judgement; promise = (judged_before order order' cycle cycle' w.judgement lo lc).0 w.promise; numbers = w.numbers },
        λ w. record { judgement = w.judgement; promise = (judged_before order order' cycle cycle' w.judgement lo lc).1 w.promise; numbers = w.numbers },
      );
      testing = tested_before;
      deck_testing = λ P r. (
        λ w. record { tested = w.tested; promise = (tested_before P w.tested).0 w.promise; numbers = w.numbers },
        λ w. record { tested = w.tested; promise = (tested_before P w.tested).1 w.promise; numbers = w.numbers },
      );
      naming = named_before;
      deck_naming = λ N r. (
        λ w. record { named = w.named; promise = (named_before N w.named).0 w.promise; numbers = w.numbers },
        λ w. record { named = w.named; promise = (named_before N w.named).1 w.promise; numbers = w.numbers },
      );
      reporting = reported_before;
      plain_call = λ g h x a. both_ways (λ k. PlainCallBy k c g x a h) same;
      plain_calls = λ g h calls answers. both_ways (λ k. PlainCallsBy k c g calls answers h) same;
      calling_in_turn = λ o w calls answers g k. subst (λ k. PlainCallsBy k c newly_opened calls answers (state_of g)) same (opened_plain s c o calls answers g book w k);
      replaying = replayed_before;
      deck_replaying = λ calls answers answers' r n w e. (state_of w.replayed.gate, replayed_before calls answers answers' w.replayed n w.promise e);
    }

  module _ (g : Gate) (sound : Sound g) (same : conflict_of (book_of g) ≡ earlier_of earlier (book_of g)) where
    called_before : (h : Gate) (x : Call) (a : Replied) → CalledAs g x a h ↔ CalledBefore earlier g x a h
    called_before h x a = (
      λ w. let v = sound_call sound w in record { plain = there.0 v.plain; book = v.book; sound = v.sound },
      λ w. on_sound sound (record { plain = there.1 w.plain; book = w.book; sound = w.sound }),
    )
      where
        there : PlainCall (book_of g) (state_of g) x (answer_of a) (state_of h) ↔ PlainCallBy (earlier_of earlier (book_of g)) (book_of g) (state_of g) x (answer_of a) (state_of h)
        there = both_ways (λ k. PlainCallBy k (book_of g) (state_of g) x (answer_of a) (state_of h)) same

    record_as_before : RecordAsBefore earlier g
    record_as_before = record {
      calling = called_before;
      deck_calling = λ h x r. (
        λ w. record { reply = w.reply; promise = (called_before h x w.reply).0 w.promise; numbers = w.numbers },
        λ w. record { reply = w.reply; promise = (called_before h x w.reply).1 w.promise; numbers = w.numbers },
      );
    }

  pass_as_before : (pairs : List ℕ) (runs : List (List Step)) → conflict (pairs_of pairs) runs ≡ earlier (pairs_of pairs) runs → PassAsBefore earlier pairs runs
  pass_as_before pairs runs same catalogue seconds dep l c s d b₁ b₂ b₃ p =
      subst (λ k. Marks (Depends k l) d) same (one_pass.each_step pairs runs catalogue seconds dep l c s d b₁ b₂ b₃ p).so_far

  -- where the conflict is the earlier one, all is as before
  as_before : (Old : List (List Step) → Type 0) → ((pairs : List Pair) (runs : List (List Step)) → Old runs → conflict pairs runs ≡ earlier pairs runs) → AsBefore earlier Old
  as_before Old same = record {
    conflicts = λ c w. same c.pairs c.runs w;
    by_conflict = λ c w P. both_ways P (same c.pairs c.runs w);
    books = λ s c e w. book_as_before s c e (same c.pairs c.runs w);
    records = λ g y w. record_as_before g y (same (book_of g).pairs (book_of g).runs w);
    passes = λ pairs runs w. pass_as_before pairs runs (same (pairs_of pairs) runs w);
  }

pub old_books : OldBooks
old_books = record {
  without_homing = as_before before_homing _ (λ pairs runs w. homing.without_homing pairs runs w.1 w.0);
  reading = earlier_reader.without_54 deck_rules;
  by_reading = λ s n P. both_ways P (earlier_reader.without_54 deck_rules s n);
  accepted_before = λ s c. (earlier_reader.still_accepted deck_rules s c, λ h. earlier_reader.accepted_before deck_rules s c h.0 h.1);
  without_transfers = as_before before_transfers _ transfers.without_transfers;
  newly_accepted = earlier_reader.newly_accepted deck_rules;
}
