-- The replay: its loop, which adds a link to the chain and two bytes to the answers at each turn, and what each way out shows.
use Prim.Native.Nat.{ℕ, zero, suc, ◌+◌, ◌*◌, ◌/◌, ◌≤◌, ◌<◌}
use native.Mathlib.Numerals.{add-one}
use native.Mathlib.Omega.{arith}
use mathlib.Core.Path.{◌≡◌, refl, ap, ap₂, sym, ◌∙◌}
use mathlib.Core.Bool.{Bool, true, false}
use mathlib.Core.List.{List, [], ◌∷◌, ◌++◌}
use borrow.Author.Tests.{eq-eqb, le-leb, lt-leb}
use mir.Val.{Fits}
use mir.Syntax.{w8}
use lib.ListN.{length, get_or, take, drop, length-append}
use lib.Seq.{take-suc, take_all, take_at, length-take-le}
use borrow.Rule.Slice.PartMut.{put_mid}
use Rattle.std.proofs.lemmas.Slice.{take-put_mid, drop-put_mid, drop-append-drop}
use Rattle.std.proofs.lemmas.List.{take-append-drop}
use Rattle.std.specs.Prelude.{Ok, Err, Option, Some, IsSome}
use Rattle.book.specs.Format.{Contents, Outcome, pick, read, refused as book_refused, accepted as book_accepted}
use Rattle.book.specs.declared.Cause.TheVariants.{AnswersShort}
use Rattle.book.specs.Book.{refusal_at}
use Rattle.plain.specs.Plain.{Call, step}
use Rattle.gate.specs.Gate.{Replied, as_call, answer_of, opening_answer, OpenedAs, CalledAs}
use Rattle.gate.specs.declared.Call.{Call as GateCall}
use Rattle.gate.specs.Chain.{none}
use Rattle.replay.specs.Replay.{Played, is_call, call_of, calls_of, bad_at, answer_bytes, answers_bytes, answers_in, played_by, Replays}
use Rattle.replay.specs.Inner.Calls.{AnswersRoom, Plays}
use Rattle.gate.specs.declared.Gate.{Gate}
use Rattle.gate.specs.declared.Opened.{Opened}
use Rattle.plain.proofs.PlainGate.{single_calls}
use Rattle.gate.proofs.Records.{sound_call}
use Rattle.gate.proofs.Chained.{chain_book, opened_plain, demand_3, chain_snoc, chain_length}
use Rattle.replay.proofs.CallBytes.{length_calls, call_at, CallIn, call_there, call_made, answer_length, answers_snoc, answers_length, answers_back}

-- ---- a list without a bad call

-- it has two bytes a call
pub whole_calls : (at : ℕ) (bs : List ℕ) → bad_at at bs ≡ at + length bs → length bs ≡ 2 * length (calls_of bs)
whole_calls at [] e = omega arith
whole_calls at (o ∷ []) e = absurd (omega arith)
whole_calls at (o ∷ r ∷ bs) e = go (is_call o) (λ e. whole_calls (at + 2) bs e) e
  where
    go : (b : Bool) → (bad_at (at + 2) bs ≡ at + 2 + length bs → length bs ≡ 2 * length (calls_of bs)) → pick b (bad_at (at + 2) bs) at ≡ at + suc (suc (length bs))
        → suc (suc (length bs)) ≡ 2 * suc (length (calls_of bs))
    go true f e = omega (arith, f (omega arith))
    go false f e = absurd (omega arith)

-- each of its calls begins with one of the three bytes
whole_is_call : (at : ℕ) (bs : List ℕ) (i : ℕ) → bad_at at bs ≡ at + length bs → i < length bs / 2 → is_call (get_or bs (2 * i) 0) ≡ true
whole_is_call at [] i e h = absurd (omega arith)
whole_is_call at (o ∷ []) i e h = absurd (omega arith)
whole_is_call at (o ∷ r ∷ bs) i e h = go (λ j. whole_is_call (at + 2) bs j) i (is_call o) refl e h
  where
    go : ((j : ℕ) → bad_at (at + 2) bs ≡ at + 2 + length bs → j < length bs / 2 → is_call (get_or bs (2 * j) 0) ≡ true) → (i : ℕ) (b : Bool) → is_call o ≡ b → pick b (bad_at (at + 2) bs) at ≡ at + suc (suc (length bs)) → i < suc (suc (length bs)) / 2
        → is_call (get_or (o ∷ r ∷ bs) (2 * i) 0) ≡ true
    go f i false q e h = absurd (omega arith)
    go f zero true q e h = q
    go f (suc i) true q e h =
        let n : 2 * suc i ≡ suc (suc (2 * i)) = omega arith in
        rw n (f i (omega arith) (omega arith))

pub call_is_there : (bs : List ℕ) (i : ℕ) → bad_at 0 bs ≡ length bs → i < length bs / 2 → (x : Option GateCall) → CallIn (get_or bs (2 * i) 0) (get_or bs (2 * i + 1) 0) x → IsSome x
call_is_there bs i e h x m = call_there (get_or bs (2 * i) 0) (get_or bs (2 * i + 1) 0) x m (whole_is_call 0 bs i (omega arith) h)

-- ---- the loop

pub round_start : (g : Gate) (xs : List Call) (b : List ℕ) → AnswersRoom g xs b → Plays g [] b b g
round_start g xs b w = record { answers = []; chain = none; buffer = refl; sound = w.sound }

-- after i of the calls bs: the buffer b is now z, and the record g now h
module _ (g : Gate) (bs b z : List ℕ) (h : Gate) (i : ℕ) (w : Plays g (take i (calls_of bs)) b z h) where
  pub round_end : length bs / 2 ≤ i → Plays g (calls_of bs) b z h
  round_end k = rw (take_all i (calls_of bs) (omega (arith, length_calls bs))) at w

  module _ (k : i < length bs / 2) where
    front : List ℕ
    front = answers_bytes w.answers

    taken : (j : ℕ) → j ≤ length bs / 2 → length (take j (calls_of bs)) ≡ j
    taken j q = length-take-le j (calls_of bs) (omega (arith, length_calls bs))

    front_length : length front ≡ 2 * i
    unfolding front
    front_length = omega (arith, answers_length w.answers, chain_length w.chain, taken i (omega arith))

    held : z ≡ front ++ drop (2 * i) b
    unfolding front
    held = let e : 2 * length (take i (calls_of bs)) ≡ 2 * i = omega (arith, taken i (omega arith)) in rw e at w.buffer

    inside : 2 * i ≤ length z
    inside = omega (arith, ap length held, length-append front (drop (2 * i) b), front_length)

    more : take (i + 1) (calls_of bs) ≡ take i (calls_of bs) ++ call_of (get_or bs (2 * i) 0) (get_or bs (2 * i + 1) 0) ∷ []
    more = rw add-one (take-suc (calls_of bs) i (step 0) (omega (arith, length_calls bs)) ∙ rw (call_at bs i (omega (arith, length_calls bs))))

    module _ (n : ℕ) (two : n ≡ 2) (x : Option GateCall) (m : CallIn (get_or bs (2 * i) 0) (get_or bs (2 * i + 1) 0) x) (y : GateCall) (e : x ≡ Some y)
        (a : Replied) (after : Gate) (called : CalledAs h (as_call y) a after) (v : List ℕ) (coded : v ≡ answer_bytes (answer_of a)) where
      long : length v ≡ 2
      long = ap length coded ∙ answer_length (answer_of a)

      first : take (2 * i + 2) (put_mid (2 * i) n z v) ≡ front ++ v
      first =
          take-put_mid (2 * i) n z v (2 * i + 2) (omega (arith, long)) inside
          ∙ ap (λ (l : List ℕ). l ++ v) (ap (take (2 * i)) held ∙ take_at front (drop (2 * i) b) (2 * i) front_length)

      second : drop (2 * i + 2) (put_mid (2 * i) n z v) ≡ drop (2 * i + 2) b
      second =
          drop-put_mid (2 * i) n z v (2 * i + 2) (omega arith) inside (omega (arith, long))
          ∙ ap (drop (2 * i + 2)) held ∙ drop-append-drop (2 * i) b front (2 * i + 2) (omega arith) front_length

      buffer_more : put_mid (2 * i) n z v ≡ answers_bytes (w.answers ++ answer_of a ∷ []) ++ drop (2 * length (take (i + 1) (calls_of bs))) b
      unfolding front
      buffer_more =
          let e : 2 * length (take (i + 1) (calls_of bs)) ≡ 2 * i + 2 = omega (arith, taken (i + 1) (omega arith)) in
          sym (take-append-drop (2 * i + 2) (put_mid (2 * i) n z v)) ∙ ap₂ (λ (p q : List ℕ). p ++ q) first second ∙ sym (rw (e, answers_snoc w.answers (answer_of a), ← coded))

      pub round_again : Plays g (take (i + 1) (calls_of bs)) b (put_mid (2 * i) n z v) after
      round_again =
          let c : CalledAs h (call_of (get_or bs (2 * i) 0) (get_or bs (2 * i + 1) 0)) a after = rw (call_made (get_or bs (2 * i) 0) (get_or bs (2 * i + 1) 0) x m y e) at called in
          record {
            answers = w.answers ++ answer_of a ∷ [];
            chain = rw more (chain_snoc w.chain a c);
            buffer = buffer_more;
            sound = (sound_call w.sound c).sound;
          }

-- ---- the ways out

accepted_of : (x : Outcome) → Ok tt ≡ opening_answer x → (c : Contents) × (x ≡ book_accepted c)
accepted_of (book_refused cause at) e = let z : ◌≡◌ {A = ℕ} 0 1 = cc in absurd (omega arith)
accepted_of (book_accepted c) e = (c, refl)

module _ (s bs b : List ℕ) (o : Opened) (w : OpenedAs (read s) o) where
  -- a refused replay leaves all as opening left it
  stops : (p : Played) → p ≡ played_by (read s) bs (length b) → ((n : ℕ) → p ≡ Ok n → ⊥) → Replays s bs b b (record { played = p; gate = o.gate })
  stops p e f = record {
    played = e;
    book = w.book;
    sound = w.sound;
    refused_unchanged = λ n. record { buffer = refl; state = w.state };
    calls_made = λ c n q d. absurd (f n d);
  }

  module _ (e : o.answer ≡ Ok tt) where
    is_read : (c : Contents) × (read s ≡ book_accepted c)
    is_read = accepted_of (read s) (sym e ∙ w.answer)

    module _ (h : bad_at 0 bs ≡ length bs) where
      two_each : length bs ≡ 2 * length (calls_of bs)
      two_each = whole_calls 0 bs (omega arith)

      pub replay_short : (p : Played) → p ≡ Err (refusal_at AnswersShort 0) → length b < length bs → Replays s bs b b (record { played = p; gate = o.gate })
      replay_short p f l =
          stops p (rw (f, is_read.1, eq-eqb (bad_at 0 bs) (length bs) h, lt-leb (2 * length (calls_of bs)) (length b) (omega (arith, two_each))))
          (λ n q. let z : ◌≡◌ {A = ℕ} 0 1 = cc in omega arith)

      pub replay_room : length bs ≤ length b → AnswersRoom o.gate (calls_of bs) b
      replay_room l = record { sound = w.sound; room = omega (arith, two_each) }

      pub replay_done : ((i : ℕ) → Fits w8 (get_or s i 0)) → length bs ≤ length b → (z : List ℕ) (g : Gate) → Plays o.gate (calls_of bs) b z g
          → Replays s bs b z (record { played = Ok (length bs / 2); gate = g })
      replay_done bytes l z g p = record {
        played = rw (is_read.1, eq-eqb (bad_at 0 bs) (length bs) h, le-leb (2 * length (calls_of bs)) (length b) (omega (arith, two_each)), length_calls bs);
        book = chain_book p.chain w.sound ∙ w.book;
        sound = p.sound;
        refused_unchanged = λ f. absurd (f (length bs / 2) refl);
        calls_made = λ c n q d. record {
          buffer = λ answers k ps. p.buffer ∙ rw (single_calls c (opened_plain s c o (calls_of bs) p.answers g q w p.chain) ps).0;
          demand = rw in_buffer (demand_3 s c (λ i. omega (arith, bytes i)) q o w (calls_of bs) p.answers g p.chain);
        };
      }
        where
          in_buffer : answers_in (take (2 * length (calls_of bs)) z) ≡ p.answers
          in_buffer =
              let n : length (answers_bytes p.answers) ≡ 2 * length (calls_of bs) = omega (arith, answers_length p.answers, chain_length p.chain) in
              rw (p.buffer, take_at (answers_bytes p.answers) (drop (2 * length (calls_of bs)) b) (2 * length (calls_of bs)) n) (answers_back p.answers)
