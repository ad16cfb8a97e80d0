-- A run taken back: what the plain gate's rule for it comes to on a record, by the rules' being single-valued; and the example over row 2's runs.
use Rattle.std.specs.Prelude.{Err, Ok}
use Prim.Native.Nat.{ℕ, ◌<◌}
use native.Mathlib.Omega.{arith}
use mathlib.Core.Path.{◌≡◌, refl, ap, sym, ◌∙◌}
use mathlib.Core.Logic.{◌↔◌, ◌≢◌}
use mathlib.Core.List.{List, [], ◌∷◌}
use borrow.Author.Tests.{eq-eqb}
use lib.ListN.{length, get_or}
use Rattle.theory.specs.History.{count, project, but}
use Rattle.theory.proofs.Within.{count_left_out, prefix_serializable}
use Rattle.book.specs.Numbers.{value_of}
use Rattle.book.specs.Meaning.{conflict_of, unit_of}
use Rattle.book.specs.declared.Cause.TheVariants.{Withdrawn}
use Rattle.book.proofs.Books.{count_is}
use Rattle.plain.specs.Plain.{step, take_back, place, taken_back, refused, State, In, insert, keep, take_run_back, newly_opened, was_withdrawn, PlainCall, step_refused, takes_back, PlainCalls, none, next}
use Rattle.gate.specs.Gate.{Replied, answer_of, book_of, state_of, Sound, CalledAs}
use Rattle.gate.specs.declared.Gate.{Gate}
use Rattle.gate.specs.declared.Reply.TheVariants.{TakenBack}
use Rattle.plain.proofs.PlainGate.{single, in_insert, count_insert_other}
use Rattle.gate.proofs.Records.{flagged_in, flagged_out, sound_call}
use Rattle.gate.proofs.Unchanged.{refused_unchanged}
use Rattle.capi.specs.Numbers.{answered}
use Rattle.capi.specs.Calls.{GateCall}
use Rattle.capi.specs.declared.Answered.{Answered}
use Rattle.claims.specs.Lazy.{book_2}
use Rattle.claims.specs.TakeBack.{RunTakenBack, tangled_calls, TakeBacks}
use Rattle.claims.proofs.Determined.{reply_of, reply_back}
use Rattle.claims.proofs.Lazy.{Serializable, row_2_serializable, row_5_serializable, start_1_serializable, start_2_serializable, after_1, after_2, after_3, kept_step, tangled_0}

-- ---- one call

-- the reply by its answer
reply_is : (a b : Replied) → answer_of a ≡ answer_of b → a ≡ b
reply_is a b e = sym (reply_back a) ∙ ap reply_of e ∙ reply_back b

other_run : (r q : ℕ) (w : List ℕ) → q ≢ r → In q (insert r w) ↔ In q w
other_run r q w n = let e = count_insert_other r q w (λ p. n (sym p)) in (λ i. omega (arith, e), λ i. omega (arith, e))

module _ (g h : Gate) (r : ℕ) (y : Sound g) (d : r < length (book_of g).runs) (n : ¬ In r (state_of g).taken_back) (a : Replied) (w : CalledAs g (take_back r) a h) where
  rule : PlainCall (book_of g) (state_of g) (take_back r) taken_back (take_run_back (state_of g) r)
  rule = takes_back (record { declared = d; not_taken_back = n })

  answer : a ≡ Ok TakenBack
  answer = reply_is a (Ok TakenBack) (single (book_of g) (state_of g) (sound_call y w).plain rule).answers

  left : state_of h ≡ take_run_back (state_of g) r
  left = (single (book_of g) (state_of g) (sound_call y w).plain rule).states

  kept_is : (state_of h).kept ≡ project (but r) (state_of g).kept
  kept_is = ap (λ (s : State). s.kept) left

  withdrawn_is : (state_of h).withdrawn ≡ insert r (state_of g).withdrawn
  withdrawn_is = ap (λ (s : State). s.withdrawn) left

  taken_is : (state_of h).taken_back ≡ insert r (state_of g).taken_back
  taken_is = ap (λ (s : State). s.taken_back) left

  run_taken_back : RunTakenBack r g h
  run_taken_back = record {
    steps_leave = rw kept_is (count_left_out (but r) r (rw (eq-eqb r r refl)) (state_of g).kept);
    others_stay = kept_is;
    withdrawn = rw withdrawn_is (in_insert r (state_of g).withdrawn);
    taken_back = rw taken_is (in_insert r (state_of g).taken_back);
    others_withdrawn = λ q o. rw withdrawn_is (other_run r q (state_of g).withdrawn o);
    others_taken_back = λ q o. rw taken_is (other_run r q (state_of g).taken_back o);
    book = (sound_call y w).book;
  }

deck_answer : (g h : Gate) (r : ℕ) (x : Answered) → Sound g → r < length (book_of g).runs → ¬ In r (state_of g).taken_back → GateCall (take_back r) g h x
    → (x ≡ answered (value_of 0)) × RunTakenBack r g h
deck_answer g h r x y d n w = (w.numbers ∙ rw (answer g h r y d n w.reply w.promise), run_taken_back g h r y d n w.reply w.promise)

-- ---- runs that were taken back

module _ (g : Gate) (r : ℕ) (y : Sound g) (i : In r (state_of g).taken_back) where
  flag : ¬ (get_or g.taken_back r 0 ≡ 0)
  flag z = flagged_out g.taken_back r z i

  taken_back_withdrawn : In r (state_of g).withdrawn × (count (state_of g).kept r ≡ 0)
  taken_back_withdrawn = (flagged_in g.withdrawn r (y.taken_back_agree.withdrawn r flag), count_is g.book y.valid r ∙ y.taken_back_agree.none_kept r flag)

  later_step : (h : Gate) (a : Replied) → r < length (book_of g).runs → CalledAs g (step r) a h → (a ≡ Err Withdrawn) × (h ≡ g)
  later_step h a d w =
      let e = reply_is a (Err Withdrawn) (single (book_of g) (state_of g) (sound_call y w).plain (step_refused (was_withdrawn d taken_back_withdrawn.0))).answers in
      (e, refused_unchanged g h (step r) Withdrawn (rw e at w))

-- ---- the example

-- the runs of row 2 once run 1 is taken back
abbrev without_1 : State
without_1 = record { kept = 0 ∷ []; withdrawn = 1 ∷ []; taken_back = 1 ∷ [] }

twice_0_serializable : Serializable (0 ∷ 0 ∷ [])
twice_0_serializable = prefix_serializable (conflict_of (book_2 [])) (unit_of (book_2 [])) (0 ∷ 0 ∷ []) (1 ∷ 1 ∷ []) row_2_serializable

module _ (h : List ℕ) where
  taken_back_1 : PlainCall (book_2 h) after_3 (take_back 1) taken_back without_1
  unfolding project
  taken_back_1 = takes_back {r = 1} (record { declared = omega arith; not_taken_back = λ i. omega arith })

  example : PlainCalls (book_2 h) newly_opened tangled_calls (place 0 ∷ place 1 ∷ place 2 ∷ refused 23 ∷ taken_back ∷ place 1 ∷ []) (keep without_1 0)
  example =
      next (kept_step h newly_opened 0 (omega arith) start_1_serializable)
      (next (kept_step h after_1 1 (omega arith) start_2_serializable)
      (next (kept_step h after_2 1 (omega arith) row_5_serializable)
      (next (tangled_0 h)
      (next taken_back_1
      (next (kept_step h without_1 0 (omega arith) twice_0_serializable) none)))))

-- ---- the theorem

pub take_backs : TakeBacks
take_backs = record {
  answered_so = λ g h r a y d n w. (answer g h r y d n a w, run_taken_back g h r y d n a w);
  deck_answered_so = deck_answer;
  taken_back_withdrawn = taken_back_withdrawn;
  later_steps = λ g h r a y d i w. later_step g r y i h a d w;
  tangled_without = λ s c calls answers g d f i j r l x a y. d.tangled_stays i j r l x a y (λ k m n. f k);
  tangled_then_admitted = λ s h answers g d. (d.answers_equal _ _ (example h), d.kept_equal _ _ (example h));
}
