-- Demands 2 and 3, of the calls in Rattle and for C, and the twelve rows.
use Rattle.std.specs.Prelude.{Result, Err, Ok}
use Prim.Native.Nat.{ℕ, ◌<◌}
use native.Mathlib.Omega.{arith}
use mathlib.Core.Path.{◌≡◌, refl, ap, ap₂, sym, subst, ◌∙◌}
use mathlib.Core.Logic.{◌≢◌}
use mathlib.Core.List.{List, [], ◌∷◌}
use lib.ListN.{length, take, drop}
use lib.Seq.{take-append_seam}
use Rattle.theory.specs.Relative.{RelativelySerialOrder}
use Rattle.theory.specs.Graph.{Cycle}
use Rattle.theory.specs.Rows.{TwelveHistories}
use Rattle.theory.proofs.Places.{order_length}
use Rattle.theory.proofs.Rows.{twelve_rows}
use Rattle.book.specs.Format.{Contents, Outcome}
use Rattle.book.specs.Meaning.{conflict_of, unit_of}
use Rattle.book.specs.Numbers.{number, Numbers, value_of}
use Rattle.book.specs.declared.Cause.{Cause}
use Rattle.book.specs.declared.Refusal.{Refusal as Refused}
use Rattle.judge.specs.Judged.{JudgeAnswer, verdict_numbers, verdict_of, count_of, JudgedAs, JudgementAs}
use Rattle.judge.specs.Judge.{OutcomeJudged}
use Rattle.judge.specs.declared.Verdict.{Verdict}
use Rattle.judge.specs.declared.Verdict.TheVariants.{Passed, Tangled}
use Rattle.judge.proofs.Uncut.{bytes_passed, uncut_passed}
use Rattle.plain.specs.Plain.{Call, Answer, place, refused, State, Refusal, not_declared, was_withdrawn, all_kept, TakeBackRefusal, undeclared, was_taken_back, PlainCall, step_refused, step_tangled, step_kept, withdraw_refused, withdraws, take_back_refused, takes_back}
use Rattle.gate.specs.Gate.{Replied, answer_of, reply_numbers, Sound}
use Rattle.gate.specs.Chain.{Chain, none as no_calls, link as call_link}
use Rattle.gate.specs.declared.Gate.{Gate}
use Rattle.gate.specs.declared.Reply.TheVariants.{Place, Withdrawn, TakenBack}
use Rattle.gate.proofs.Records.{sound_call}
use Rattle.gate.proofs.Chained.{demand_3 as gate_demand}
use Rattle.capi.specs.Numbers.{answered}
use Rattle.capi.specs.declared.Answered.{Answered}
use Rattle.capi.specs.declared.OpenedGate.{OpenedGate}
use Rattle.claims.specs.Demands.{Demand2By, EveryJudgement, EveryDeckJudgement, EveryListOfCalls, DeckChain, none, link, NumbersOf, of_place, of_withdrawn, of_taken_back, of_refusal, NumbersOfAll, no_more, then, EveryListOfDeckCalls}

-- ---- demand 2

-- a verdict, or a refusal
abbrev Said : Type 0
Said = Result Verdict Refused

passed_ok : {v : Verdict} → ◌≡◌ {A = Said} (Ok v) (Ok Passed) → v ≡ Passed
passed_ok {v} e = let z : v ≡ Passed = cc in z

module _ (c : Contents) (order order' cycle cycle' : List ℕ) where
  abbrev Judged : JudgeAnswer → Type 0
  Judged = JudgementAs (conflict_of c) (unit_of c) c.history order order' cycle cycle'

  order_returned : (r : JudgeAnswer) → Judged r → verdict_of r ≡ Ok Passed → RelativelySerialOrder (conflict_of c) (unit_of c) c.history (take (count_of r) order')
  order_returned (Err refusal) j e = absurd j
  order_returned (Ok k) j e = go k.verdict k.count j (passed_ok e)
    where
      go : (v : Verdict) (n : ℕ) → JudgedAs (conflict_of c) (unit_of c) c.history order order' cycle cycle' v n → v ≡ Passed
          → RelativelySerialOrder (conflict_of c) (unit_of c) c.history (take n order')
      go Tangled n j e = let z : ◌≡◌ {A = ℕ} 0 1 = cc in absurd (omega arith)
      go Passed n j e =
          let l = j.taken in
          let k : n ≡ length l = j.count_is ∙ sym (order_length c.history l j.evidence.equivalent.order) in
          rw (j.order_is, k, take-append_seam l (drop (length c.history) order)) j.evidence

  order_counted : (r : JudgeAnswer) → Judged r → verdict_of r ≡ Ok Passed → count_of r ≡ length c.history
  order_counted (Err refusal) j e = absurd j
  order_counted (Ok k) j e = go k.verdict k.count j (passed_ok e)
    where
      go : (v : Verdict) (n : ℕ) → JudgedAs (conflict_of c) (unit_of c) c.history order order' cycle cycle' v n → v ≡ Passed → n ≡ length c.history
      go Tangled n j e = let z : ◌≡◌ {A = ℕ} 0 1 = cc in absurd (omega arith)
      go Passed n j e = j.count_is

  tangled_otherwise : (r : JudgeAnswer) → Judged r → verdict_of r ≢ Ok Passed → verdict_of r ≡ Ok Tangled
  tangled_otherwise (Err refusal) j e = absurd j
  tangled_otherwise (Ok k) j e = go k.verdict e
    where
      go : (v : Verdict) → ◌≢◌ {A = Said} (Ok v) (Ok Passed) → ◌≡◌ {A = Said} (Ok v) (Ok Tangled)
      go Passed e = absurd (e refl)
      go Tangled e = refl

  cycle_returned : (r : JudgeAnswer) → Judged r → verdict_of r ≢ Ok Passed → Cycle (conflict_of c) (unit_of c) c.history (take (count_of r) cycle')
  cycle_returned (Err refusal) j e = absurd j
  cycle_returned (Ok k) j e = go k.verdict k.count j e
    where
      go : (v : Verdict) (n : ℕ) → JudgedAs (conflict_of c) (unit_of c) c.history order order' cycle cycle' v n → ◌≢◌ {A = Said} (Ok v) (Ok Passed)
          → Cycle (conflict_of c) (unit_of c) c.history (take n cycle')
      go Passed n j e = absurd (e refl)
      go Tangled n j e = rw (j.cycle_is, j.count_is, take-append_seam j.places (drop (length j.places) cycle)) j.evidence

  cycle_counted : (r : JudgeAnswer) → Judged r → verdict_of r ≢ Ok Passed → count_of r ≡ length (take (count_of r) cycle')
  cycle_counted (Err refusal) j e = absurd j
  cycle_counted (Ok k) j e = go k.verdict k.count j e
    where
      go : (v : Verdict) (n : ℕ) → JudgedAs (conflict_of c) (unit_of c) c.history order order' cycle cycle' v n → ◌≢◌ {A = Said} (Ok v) (Ok Passed) → n ≡ length (take n cycle')
      go Passed n j e = absurd (e refl)
      go Tangled n j e = rw (j.cycle_is, j.count_is, take-append_seam j.places (drop (length j.places) cycle))

pub demand_2 : EveryJudgement
demand_2 s c e order order' cycle cycle' r a b j = record {
  passes_exactly = bytes_passed order order' cycle cycle' s r j a b c e;
  order_returned = order_returned c order order' cycle cycle' r judged;
  order_counted = order_counted c order order' cycle cycle' r judged;
  tangled_otherwise = tangled_otherwise c order order' cycle cycle' r judged;
  cycle_returned = cycle_returned c order order' cycle cycle' r judged;
  cycle_counted = cycle_counted c order order' cycle cycle' r judged;
  uncut_exactly = uncut_passed order order' cycle cycle' s r j a b c e;
}
  where
    judged : JudgementAs (conflict_of c) (unit_of c) c.history order order' cycle cycle' r
    judged = subst (λ (o : Outcome). OutcomeJudged order order' cycle cycle' o r) e (j.long a b)

-- the same in numbers
pub passed_is_1 : (v : Said) → verdict_numbers v ≡ value_of 1 → v ≡ Ok Passed
passed_is_1 (Err refusal) e = let z = ap (λ (k : Numbers). k.value) e in absurd (omega arith)
passed_is_1 (Ok Passed) e = refl
passed_is_1 (Ok Tangled) e = let z = ap (λ (k : Numbers). k.value) e in absurd (omega arith)

in_numbers : {c : Contents} {order' cycle' : List ℕ} {n : ℕ} (v : Said) → Demand2By (Ok Passed) (Ok Tangled) c order' cycle' v n
    → Demand2By (value_of 1) (value_of 2) c order' cycle' (verdict_numbers v) n
in_numbers v d = record {
  passes_exactly = (λ p. d.passes_exactly.0 (passed_is_1 v p), λ s. ap verdict_numbers (d.passes_exactly.1 s));
  order_returned = λ p. d.order_returned (passed_is_1 v p);
  order_counted = λ p. d.order_counted (passed_is_1 v p);
  tangled_otherwise = λ n. ap verdict_numbers (d.tangled_otherwise (λ p. n (ap verdict_numbers p)));
  cycle_returned = λ n. d.cycle_returned (λ p. n (ap verdict_numbers p));
  cycle_counted = λ n. d.cycle_counted (λ p. n (ap verdict_numbers p));
  uncut_exactly = λ u. (λ p. (d.uncut_exactly u).0 (passed_is_1 v p), λ s. ap verdict_numbers ((d.uncut_exactly u).1 s));
}

pub deck_demand_2 : EveryDeckJudgement
deck_demand_2 s c e order order' cycle cycle' r a b j =
    rw j.numbers (in_numbers (verdict_of j.judgement) (demand_2 s c e order order' cycle cycle' j.judgement a b j.promise))

-- ---- demand 3

pub demand_3 : EveryListOfCalls
demand_3 = gate_demand

-- ---- demand 3 of the calls for C

-- the plain gate's refusals have a number
refusal_positive : {c : Contents} {g : State} {r : ℕ} {cause : Cause} → Refusal c g r cause → 0 < number cause
refusal_positive (not_declared d) = omega arith
refusal_positive (was_withdrawn d w) = omega arith
refusal_positive (all_kept d n l) = omega arith

take_back_refusal_positive : {c : Contents} {g : State} {r : ℕ} {cause : Cause} → TakeBackRefusal c g r cause → 0 < number cause
take_back_refusal_positive (undeclared d) = omega arith
take_back_refusal_positive (was_taken_back d w) = omega arith

positive : {c : Contents} {g h : State} {x : Call} {b : Answer} (m : ℕ) → PlainCall c g x b h → b ≡ refused m → 0 < m
positive m (step_refused {cause = k} p) e = let q : number k ≡ m = cc in omega (arith, refusal_positive p)
positive m (step_tangled l t) e = let q : 23 ≡ m = cc in omega arith
positive m (step_kept l t) e = let z : ◌≡◌ {A = ℕ} 0 1 = cc in absurd (omega arith)
positive m (withdraw_refused {cause = k} p) e = let q : number k ≡ m = cc in omega (arith, refusal_positive p)
positive m (withdraws l) e = let z : ◌≡◌ {A = ℕ} 0 1 = cc in absurd (omega arith)
positive m (take_back_refused {cause = k} p) e = let q : number k ≡ m = cc in omega (arith, take_back_refusal_positive p)
positive m (takes_back l) e = let z : ◌≡◌ {A = ℕ} 0 1 = cc in absurd (omega arith)

-- the numbers of a reply that the plain gate gives
numbers_of_reply : {c : Contents} {g h : State} {x : Call} (a : Replied) → PlainCall c g x (answer_of a) h → NumbersOf x (answer_of a) (answered (reply_numbers a))
numbers_of_reply (Ok (Place p)) (step_kept e t) = of_place
numbers_of_reply (Ok Withdrawn) (withdraws e) = of_withdrawn
numbers_of_reply (Ok TakenBack) (takes_back e) = of_taken_back
numbers_of_reply (Err cause) p = of_refusal (positive (number cause) p refl)

-- one answer to a call has them
one_answer : {x : Call} {a b : Answer} {n m : Answered} → NumbersOf x a n → NumbersOf x b m → n ≡ m → a ≡ b
one_answer of_place of_place e = ap place (ap (λ (z : Answered). z.value) e)
one_answer of_place (of_refusal l) e = let z = ap (λ (z : Answered). z.number) e in absurd (omega arith)
one_answer of_withdrawn of_withdrawn e = refl
one_answer of_withdrawn (of_refusal l) e = let z = ap (λ (z : Answered). z.number) e in absurd (omega arith)
one_answer of_taken_back of_taken_back e = refl
one_answer of_taken_back (of_refusal l) e = let z = ap (λ (z : Answered). z.number) e in absurd (omega arith)
one_answer (of_refusal l) of_place e = let z = ap (λ (z : Answered). z.number) e in absurd (omega arith)
one_answer (of_refusal l) of_withdrawn e = let z = ap (λ (z : Answered). z.number) e in absurd (omega arith)
one_answer (of_refusal l) of_taken_back e = let z = ap (λ (z : Answered). z.number) e in absurd (omega arith)
one_answer (of_refusal l) (of_refusal k) e = ap refused (ap (λ (z : Answered). z.number) e)

one_list : {xs : List Call} {bs ds : List Answer} {ns : List Answered} → NumbersOfAll xs bs ns → NumbersOfAll xs ds ns → bs ≡ ds
one_list no_more no_more = refl
one_list (then w k) (then v l) = ap₂ ◌∷◌ (one_answer w v refl) (one_list k l)

-- the replies of the calls, from a sound record on
replies : {g h : Gate} {xs : List Call} {ns : List Answered} → DeckChain g xs ns h → Sound g → (bs : List Answer) × Chain g xs bs h × NumbersOfAll xs bs ns
replies none y = ([], no_calls, no_more)
replies (link {x = x} w k) y =
    let v = sound_call y w.promise in
    let t = replies k v.sound in
    (answer_of w.reply ∷ t.0, call_link w.reply w.promise t.1, then (subst (NumbersOf x (answer_of w.reply)) (sym w.numbers) (numbers_of_reply w.reply v.plain)) t.2)

pub deck_demand_3 : EveryListOfDeckCalls
deck_demand_3 s c bytes e o w calls numbers g k =
    let t = replies (subst (λ (z : Gate). DeckChain z calls numbers g) (ap (λ (z : OpenedGate). z.gate) w.numbers) k) w.promise.sound in
    record {
      answers = t.0;
      numbers_of = t.2;
      no_other = λ bs d. one_list d t.2;
      demand = gate_demand s c bytes e w.opened w.promise calls t.0 g t.1;
    }

-- ---- the twelve rows

pub rows : TwelveHistories
rows = twelve_rows
