-- A record is determined by what it means: two sound records of the same book and state are equal in every byte. So a refused call changes no byte of
-- the record, and one that is not sound is handed back as it is.
use Rattle.std.specs.Prelude.{Err}
use Prim.Native.Nat.{ℕ}
use mathlib.Core.Path.{◌≡◌, refl, ap, ap₂, sym, ◌∙◌}
use mathlib.Core.List.{List}
use native.Mathlib.Omega.{arith}
use Rattle.book.specs.Format.{Contents, run_limit, with_history}
use Rattle.book.specs.Numbers.{number}
use Rattle.book.specs.Book.{flagged, contents_of, Flags}
use Rattle.book.specs.declared.Book.{Book}
use Rattle.book.specs.declared.Cause.{Cause}
use Rattle.book.proofs.Determined.{flags_same, determined}
use Rattle.plain.specs.Plain.{Call, Answer, refused, State, PlainCall, step_refused, step_tangled, step_kept, withdraw_refused, withdraws, take_back_refused, takes_back}
use Rattle.gate.specs.Gate.{book_of, state_of, Sound, CalledAs, on_sound, on_damaged}
use Rattle.gate.specs.declared.Gate.{Gate}

pub same_record : (g h : Gate) → Sound g → Sound h → book_of g ≡ book_of h → state_of g ≡ state_of h → g ≡ h
same_record g h y z e f =
    let same_contents : contents_of g.book ≡ contents_of h.book = ap₂ with_history e (ap (λ (s : State). s.kept) f) in
    let same_flags : (v w : List ℕ) → Flags run_limit v → Flags run_limit w → flagged 0 v ≡ flagged 0 w → v ≡ w = λ v w p q e. flags_same 0 v w (p.long ∙ sym q.long) p.small q.small e in
    ap₂ (λ (b : Book) (w : List ℕ × List ℕ). record { book = b; withdrawn = w.0; taken_back = w.1 })
    (determined g.book h.book y.valid z.valid same_contents)
    (ap₂ (λ (v w : List ℕ). (v, w)) (same_flags g.withdrawn h.withdrawn y.withdrawn_flags z.withdrawn_flags (ap (λ (s : State). s.withdrawn) f))
    (same_flags g.taken_back h.taken_back y.taken_back_flags z.taken_back_flags (ap (λ (s : State). s.taken_back) f)))

-- a refused call leaves the plain gate's state
stays : {c : Contents} {g h : State} {x : Call} {a : Answer} (n : ℕ) → PlainCall c g x a h → a ≡ refused n → h ≡ g
stays n (step_refused d) e = refl
stays n (step_tangled d t) e = refl
stays n (step_kept d t) e = let z : ◌≡◌ {A = ℕ} 0 1 = cc in absurd (omega arith)
stays n (withdraw_refused d) e = refl
stays n (withdraws d) e = let z : ◌≡◌ {A = ℕ} 0 1 = cc in absurd (omega arith)
stays n (take_back_refused d) e = refl
stays n (takes_back d) e = let z : ◌≡◌ {A = ℕ} 0 1 = cc in absurd (omega arith)

pub refused_unchanged : (g h : Gate) (x : Call) (cause : Cause) → CalledAs g x (Err cause) h → h ≡ g
refused_unchanged g h x cause (on_sound y w) = same_record h g w.sound y w.book (stays (number cause) w.plain refl)
refused_unchanged g h x cause (on_damaged n e f) = f
