-- What the reader, the class tests and the judge say of a book, as a report on it.
use Prim.Native.Nat.{ℕ, ◌≤◌, ◌<◌}
use native.Mathlib.Omega.{arith}
use mathlib.Core.Path.{◌≡◌, refl, sym, ap, ◌∙◌}
use mathlib.Core.Bool.{Bool, true, false}
use mathlib.Core.List.{List, ◌++◌, map}
use lib.ListN.{length, take, drop, length-append, length-drop, length-map}
use lib.Seq.{take_at}
use Rattle.theory.specs.Rows.{Is}
use Rattle.buffer.specs.Put.{Put}
use Rattle.book.specs.Format.{Contents, Outcome, step_limit}
use Rattle.book.specs.Meaning.{conflict_of, unit_of}
use Rattle.book.specs.Book.{contents_of, Valid}
use Rattle.book.specs.declared.Book.{Book}
use Rattle.book.proofs.Books.{done_within, history_long}
use Rattle.theory.specs.Answers.{Answers}
use Rattle.theory.proofs.Answered.{refute}
use Rattle.names.specs.Names.{names_value, cycle_names}
use Rattle.names.specs.declared.ArcNames.{ArcNames}
use Rattle.names.proofs.CycleNames.{named_length}
use Rattle.judge.specs.Judged.{JudgedAs}
use Rattle.judge.specs.Inner.Names.{EvidenceNamed}
use Rattle.judge.specs.declared.Verdict.{Verdict}
use Rattle.judge.specs.declared.Verdict.TheVariants.{Passed, Tangled}
use Rattle.judge.specs.declared.Judgement.{Judgement}
use Rattle.report.specs.Text.{Verdict as ReportVerdict, Report, text_of}
use Rattle.report.specs.Reporting.{VerdictOn, ClassesOn, FindingsOn, ReportOn, Reports}
use Rattle.report.specs.Inner.Widths.{number_limit}
use Rattle.report.specs.Inner.Lines.{names_of_value, verdict_in, findings}
use Rattle.report.specs.declared.Classes.{Classes}
use Rattle.report.proofs.NameLetters.{values_back}

-- ---- the class tests

pub answer_is : {P : Type 0} (b : Bool) → Answers P b → Is b P
answer_is true a = a.sound refl
answer_is false a = refute a refl

-- ---- the verdict and its evidence

-- a list that was put before what is left of a buffer of the same length
put_size : (xs before after : List ℕ) (n : ℕ) → after ≡ xs ++ drop n before → length after ≡ length before → n ≤ length before → n ≡ length xs
put_size xs before after n e same h = omega (arith, ap length e, length-append xs (drop n before), length-drop n before)

module _ (order order' cycle cycle' values values' : List ℕ) (same : length order' ≡ length order) (long : step_limit ≤ length order) where
  verdict_on : (c : Contents) → length c.history ≤ step_limit → (v : Verdict) (n : ℕ) → JudgedAs (conflict_of c) (unit_of c) c.history order order' cycle cycle' v n
      → EvidenceNamed (conflict_of c) (unit_of c) c.history cycle' values values' v n → VerdictOn c (verdict_in v n order' cycle' values')
  verdict_on c few Passed n j e =
      let size : length c.history ≡ length j.taken = put_size j.taken order order' (length c.history) j.order_is same (omega arith) in
      let front : take n order' ≡ j.taken = rw j.order_is (take_at j.taken (drop (length c.history) order) n (sym (j.count_is ∙ size))) in
      (rw front j.evidence, rw front j.greedy)
  verdict_on c few Tangled n j e =
      let front : take n cycle' ≡ j.places = rw j.cycle_is (take_at j.places (drop (length j.places) cycle) n (sym j.count_is)) in
      let names : List ArcNames = cycle_names (conflict_of c) (unit_of c) c.history j.places in
      let written : values' ≡ map names_value names ++ drop n values = rw front at e in
      let size : n ≡ length (map names_value names) = j.count_is ∙ sym (length-map names names_value ∙ named_length (conflict_of c) (unit_of c) c.history j.places) in
      let named : map names_of_value (take n values') ≡ names = rw (written, take_at (map names_value names) (drop n values) n (sym size)) (values_back names) in
      (j.not_serializable, rw front j.evidence, rw front named)

  -- a valid book, its classes, and the judgement on it
  pub findings_on : (b : Book) → Valid b → (w : Classes) → ClassesOn (contents_of b) w.serial w.atomic w.relserial w.conflict
      → (r : Judgement) → JudgedAs (conflict_of (contents_of b)) (unit_of (contents_of b)) (contents_of b).history order order' cycle cycle' r.verdict r.count
      → EvidenceNamed (conflict_of (contents_of b)) (unit_of (contents_of b)) (contents_of b).history cycle' values values' r.verdict r.count
      → (v : ReportVerdict) → v ≡ verdict_in r.verdict r.count order' cycle' values' → FindingsOn (contents_of b) (findings b.done w v)
  findings_on b valid w f r j e v is = record {
    done_is = sym (history_long b valid);
    classes_are = f;
    verdict_is = rw is (verdict_on (contents_of b) (omega (arith, history_long b valid, done_within b valid)) r.verdict r.count j e);
  }

-- the judge counts no more bytes than a history has steps
module _ (order order' cycle cycle' : List ℕ) (same : length cycle' ≡ length cycle) (long : length cycle ≡ step_limit) where
  pub count_short : (b : Book) → Valid b → (v : Verdict) (n : ℕ) → JudgedAs (conflict_of (contents_of b)) (unit_of (contents_of b)) (contents_of b).history order order' cycle cycle' v n → n ≤ step_limit
  count_short b valid Passed n j = omega (arith, j.count_is, history_long b valid, done_within b valid)
  count_short b valid Tangled n j = omega (arith, j.count_is, same, long, ap length j.cycle_is, length-append j.places (drop (length j.places) cycle), length-drop (length j.places) cycle)

pub few_done : (b : Book) → Valid b → b.done < number_limit
few_done b v = omega (arith, done_within b v)

-- ---- the text

pub text_put : {o : Outcome} {before after : List ℕ} {n : ℕ} (w : Report) → ReportOn o w → Put (text_of w) before after n → Reports o before after n
text_put w h p = record { report = w; report_on = h; put = p }
