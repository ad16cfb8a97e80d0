-- Calls and answers in bytes: the scan for a byte that is no call, one call, and an answer's two bytes.
use Rattle.std.specs.Simd.{first_chunks}
use Rattle.std.specs.Prelude.{Option, Some, None, MatchOption, IsSome, is_some}
use Prim.Native.Nat.{ℕ, zero, suc, ◌+◌, ◌-◌, ◌*◌, ◌/◌, ◌≤◌, ◌<◌}
use native.Mathlib.Nat.{not-suc-le-zero, le_of_suc-le-suc}
use native.Mathlib.Omega.{arith}
use mathlib.Core.Path.{◌≡◌, refl, ap, sym, ◌∙◌}
use mathlib.Core.Bool.{true, false}
use mathlib.Core.List.{List, [], ◌∷◌, ◌++◌, append_assoc}
use lib.ListN.{length, get_or, drop, length-append}
use lib.Seq.{drop-cons}
use Rattle.book.specs.Format.{Contents}
use Rattle.book.proofs.Books.{history_long, done_few}
use Rattle.plain.specs.Plain.{Call, step, Answer, place, withdrawn, taken_back, refused, State, PlainCall, step_refused, step_tangled, step_kept, withdraw_refused, withdraws, take_back_refused, takes_back}
use Rattle.gate.specs.Gate.{Replied, as_call, answer_of, Sound, CalledAs}
use Rattle.gate.specs.declared.Call.{Call as GateCall}
use Rattle.replay.specs.Replay.{is_call, call_of, calls_of, bad_at, answer_bytes, answers_bytes, answers_in}
use Rattle.replay.specs.Inner.Calls.{Low}
use Rattle.gate.specs.declared.Gate.{Gate}
use Rattle.gate.proofs.Records.{sound_call}

pub length_calls : (bs : List ℕ) → length (calls_of bs) ≡ length bs / 2
length_calls [] = omega arith
length_calls (o ∷ []) = omega arith
length_calls (o ∷ r ∷ bs) = omega (arith, length_calls bs)

pub call_at : (bs : List ℕ) (i : ℕ) → i < length (calls_of bs) → get_or (calls_of bs) i (step 0) ≡ call_of (get_or bs (2 * i) 0) (get_or bs (2 * i + 1) 0)
call_at [] i h = absurd (not-suc-le-zero h)
call_at (o ∷ []) i h = absurd (not-suc-le-zero h)
call_at (o ∷ r ∷ bs) zero h = refl
call_at (o ∷ r ∷ bs) (suc i) h =
    let e : 2 * suc i ≡ suc (suc (2 * i)) = omega arith in
    let f : suc (suc (2 * i)) + 1 ≡ suc (suc (2 * i + 1)) = omega arith in
    rw (e, f) (call_at bs i (le_of_suc-le-suc h))

-- the two bytes of a call
chunk_at : (bs : List ℕ) (k i : ℕ) → i < k → 2 * k ≤ length bs → get_or (first_chunks 2 k bs) i [] ≡ get_or bs (2 * i) 0 ∷ get_or bs (2 * i + 1) 0 ∷ []
chunk_at bs zero i h l = absurd (not-suc-le-zero h)
chunk_at [] (suc k) i h l = absurd (omega arith)
chunk_at (o ∷ []) (suc k) i h l = absurd (omega arith)
chunk_at (o ∷ r ∷ bs) (suc k) zero h l = refl
chunk_at (o ∷ r ∷ bs) (suc k) (suc i) h l =
    let e : 2 * suc i ≡ suc (suc (2 * i)) = omega arith in
    let f : suc (suc (2 * i)) + 1 ≡ suc (suc (2 * i + 1)) = omega arith in
    rw (e, f) (chunk_at bs k i (le_of_suc-le-suc h) (omega arith))

-- ---- one call

-- what `call_of` says of the bytes o and r
abbrev pub CallIn : ℕ → ℕ → Option GateCall → Type 0
CallIn o r x = MatchOption x (is_call o ≡ false) (λ y. (is_call o ≡ true) × (as_call y ≡ call_of o r))

-- of call i, whose bytes are those of a chunk
pub chunk_call : (bs : List ℕ) (ps : List (List ℕ)) → ps ≡ first_chunks 2 (length bs / 2) bs → (i : ℕ) → i < length bs / 2 → (x : Option GateCall)
    → CallIn (get_or (get_or ps i []) 0 0) (get_or (get_or ps i []) 1 0) x → CallIn (get_or bs (2 * i) 0) (get_or bs (2 * i + 1) 0) x
chunk_call bs ps e i h x m = rw (e, chunk_at bs (length bs / 2) i h (omega arith)) at m

module _ (o r : ℕ) where
  is_no_call : (x : Option GateCall) → CallIn o r x → is_some x ≡ false → is_call o ≡ false
  is_no_call None m e = m
  is_no_call (Some y) m e = absurd (cc)

  is_a_call : (x : Option GateCall) → CallIn o r x → is_some x ≡ true → is_call o ≡ true
  is_a_call None m e = absurd (cc)
  is_a_call (Some y) m e = m.0

  pub call_there : (x : Option GateCall) → CallIn o r x → is_call o ≡ true → IsSome x
  call_there None m e = absurd (cc)
  call_there (Some y) m e = refl

  pub call_made : (x : Option GateCall) → CallIn o r x → (y : GateCall) → x ≡ Some y → as_call y ≡ call_of o r
  call_made x m y e = (rw e at m).1

-- ---- the scan

pub drop_two : (bs : List ℕ) (at : ℕ) → 2 ≤ length bs - at → drop at bs ≡ get_or bs at 0 ∷ get_or bs (at + 1) 0 ∷ drop (at + 2) bs
drop_two bs at h =
    let e : suc at ≡ at + 1 = omega arith in
    let f : suc (at + 1) ≡ at + 2 = omega arith in
    drop-cons bs at 0 (omega arith) ∙ rw (e, drop-cons bs (at + 1) 0 (omega arith), f)

module _ (bs : List ℕ) (i : ℕ) (w : bad_at (2 * i) (drop (2 * i) bs) ≡ bad_at 0 bs) where
  module _ (h : i < length bs / 2) (x : Option GateCall) (m : CallIn (get_or bs (2 * i) 0) (get_or bs (2 * i + 1) 0) x) where
    pub scan_bad : is_some x ≡ false → 2 * i ≡ bad_at 0 bs
    scan_bad e = sym (rw (drop_two bs (2 * i) (omega arith), is_no_call (get_or bs (2 * i) 0) (get_or bs (2 * i + 1) 0) x m e)) ∙ w

    pub scan_next : is_some x ≡ true → bad_at (2 * (i + 1)) (drop (2 * (i + 1)) bs) ≡ bad_at 0 bs
    scan_next e =
        let n : 2 * (i + 1) ≡ 2 * i + 2 = omega arith in
        rw n (sym (rw (drop_two bs (2 * i) (omega arith), is_a_call (get_or bs (2 * i) 0) (get_or bs (2 * i + 1) 0) x m e)) ∙ w)

-- ---- an answer's bytes

-- a place is the length of the kept list
place_is : {c : Contents} {g h : State} {x : Call} {a : Answer} (p : ℕ) → PlainCall c g x a h → a ≡ place p → p ≡ length g.kept
place_is p (step_refused w) e = let z : ◌≡◌ {A = ℕ} 0 1 = cc in absurd (omega arith)
place_is p (step_tangled o n) e = let z : ◌≡◌ {A = ℕ} 0 1 = cc in absurd (omega arith)
place_is p (step_kept o s) e = cc
place_is p (withdraw_refused w) e = let z : ◌≡◌ {A = ℕ} 0 1 = cc in absurd (omega arith)
place_is p (withdraws o) e = let z : ◌≡◌ {A = ℕ} 0 1 = cc in absurd (omega arith)
place_is p (take_back_refused w) e = let z : ◌≡◌ {A = ℕ} 0 1 = cc in absurd (omega arith)
place_is p (takes_back o) e = let z : ◌≡◌ {A = ℕ} 0 1 = cc in absurd (omega arith)

pub answer_low : (g h : Gate) (x : Call) (a : Replied) → Sound g → CalledAs g x a h → Low a
answer_low g h x a y w = record { place_low = λ p e. omega (arith, place_is p (sound_call y w).plain (ap answer_of e), history_long g.book y.valid, done_few g.book y.valid, y.valid.runs.few_steps) }

-- ---- many answers

pub answers_snoc : (bs : List Answer) (a : Answer) → answers_bytes (bs ++ a ∷ []) ≡ answers_bytes bs ++ answer_bytes a
answers_snoc [] (place p) = refl
answers_snoc [] withdrawn = refl
answers_snoc [] taken_back = refl
answers_snoc [] (refused n) = refl
answers_snoc (b ∷ bs) a = rw (answers_snoc bs a, append_assoc)

pub answer_length : (a : Answer) → length (answer_bytes a) ≡ 2
answer_length (place p) = refl
answer_length withdrawn = refl
answer_length taken_back = refl
answer_length (refused n) = refl

pub answers_length : (bs : List Answer) → length (answers_bytes bs) ≡ 2 * length bs
answers_length [] = refl
answers_length (a ∷ bs) = omega (arith, length-append (answer_bytes a) (answers_bytes bs), answer_length a, answers_length bs)

pub answers_back : (bs : List Answer) → answers_in (answers_bytes bs) ≡ bs
answers_back [] = refl
answers_back (place p ∷ bs) = rw (answers_back bs)
answers_back (withdrawn ∷ bs) = rw (answers_back bs)
answers_back (taken_back ∷ bs) = rw (answers_back bs)
answers_back (refused n ∷ bs) = rw (answers_back bs)
