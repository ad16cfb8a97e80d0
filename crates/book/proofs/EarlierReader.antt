-- Books before and after command 54. Both readers do the same with any other byte, so reading by the one goes as by the other up to the first 54, where
-- the earlier one refuses by 2. An accepted book's contents have a transfer exactly if a 54 was read, since no command takes a step away.
use Prim.Native.Nat.{ℕ, zero, suc, ◌+◌, ◌≤◌, ◌<◌}
use native.Mathlib.Omega.{arith}
use native.Mathlib.Nat.{le_refl}
use mathlib.Core.Path.{◌≡◌, refl, sym, subst, ◌∙◌}
use mathlib.Core.Logic.{◌⊎◌, inl, inr, ◌≢◌}
use mathlib.Core.Bool.{Bool, true, false}
use mathlib.Core.List.{List, [], ◌∷◌, ◌++◌}
use borrow.Author.Tests.{ltb-true, lt-ltb, leb-true, le-leb, eqb-true, ne_eqb}
use lib.ListN.{length, get_or}
use lib.Dec.{ltb, leb, eqb}
use Rattle.theory.specs.Deck.{Step, single, transfer, no_step}
use Rattle.theory.specs.Transfers.{touch_of, WithoutTransfers}
use Rattle.theory.proofs.Lists.{get_or_inside}
use Rattle.theory.proofs.Places.{Compared, eq_cases}
use Rattle.book.specs.Format.{Contents, Outcome, refused, accepted, pick, byte, Command, pair, run, step, cut, done, command_bytes, width, add_last, effect, operand_tests, Test, ReadState, Move, on, over, check, checks, command_tests, next_state, obeyed, pair_at, run_at, single_at, transfer_at, cut_at, done_at, obey, end_at, command_at, follow, read_from, read_commands, read_by, start}
use Rattle.book.specs.EarlierReader.{earlier, Reaches, at_start, behind, Has54, RefusedBefore, EarlierReader}
use Rattle.book.specs.declared.Rules.{Rules}
use Rattle.book.specs.declared.Cause.{Cause}
use Rattle.book.specs.declared.Cause.TheVariants.{BookTooLong, NoCommand, EndsEarly, BytesAfterEnd}
use Rattle.book.proofs.Ladder.{Holds}
use Rattle.book.proofs.FormatLaws.{width_positive, offers, not_accepted}

-- ---- one command, by both readers

operands_same : (ρ : Rules) (d : Contents) (c : Command) → operand_tests (earlier ρ) d c ≡ operand_tests ρ d c
unfolding operand_tests
operands_same ρ d (pair p) = refl
operands_same ρ d (run r) = refl
operands_same ρ d (step x) = refl
operands_same ρ d (cut c) = refl
operands_same ρ d (done r) = refl

module _ (ρ : Rules) (s : List ℕ) (at : ℕ) (t : ReadState) where
  obey_same : (f : List ℕ → ℕ → Command) → obey f (earlier ρ) s at t ≡ obey f ρ s at t
  unfolding obey
  obey_same f = rw (operands_same ρ t.contents (f s at))

  -- any byte but 54
  command_same : byte s at ≢ 0x54 → command_at (earlier ρ) s at t ≡ command_at ρ s at t
  unfolding command_at end_at
  command_same n = rw (ne_eqb (byte s at) 0x54 n, obey_same pair_at, obey_same run_at, obey_same single_at, obey_same cut_at, obey_same done_at)

  -- 54
  no_command : byte s at ≡ 0x54 → at < length s → command_at (earlier ρ) s at t ≡ over (refused NoCommand at)
  unfolding command_at
  no_command b l = rw (lt-ltb at (length s) l, b)

-- beyond the end no byte is 54
inside_54 : (s : List ℕ) (at : ℕ) → byte s at ≡ 0x54 → at < length s
inside_54 s at b = get_or_inside s at (omega arith)

-- ---- what a command does: reading is refused, or goes on behind it, or ends

record Obeyed (ρ : Rules) (s : List ℕ) (at : ℕ) (t : ReadState) (c : Command) : Type 0 where
  inside : at < length s
  begins : byte (command_bytes c) 0 ≡ byte s at
  offered : offers ρ c ≡ true
  operands : Holds (operand_tests ρ t.contents c)

data Seen (ρ : Rules) (s : List ℕ) (at : ℕ) (t : ReadState) : Move → Type 0 where
  refuses : {c : Cause} {p : ℕ} → Seen ρ s at t (over (refused c p))
  obeys : (c : Command) → Obeyed ρ s at t c → Seen ρ s at t (obeyed c at t)
  ends : byte s at ≡ 0x45 → Seen ρ s at t (over (accepted t.contents))

module _ {ρ : Rules} {s : List ℕ} {at : ℕ} {t : ReadState} where
  check_seen : (b : Bool) (c : Cause) (p : ℕ) {m : Move} → (b ≡ true → Seen ρ s at t m) → Seen ρ s at t (check b c p m)
  check_seen true c p h = h refl
  check_seen false c p h = refuses

  checks_seen : (ts : List Test) (p : ℕ) {m : Move} → (Holds ts → Seen ρ s at t m) → Seen ρ s at t (checks ts p m)
  checks_seen [] p h = h tt
  checks_seen (u ∷ us) p h = check_seen u.holds u.cause p (λ a. checks_seen us p (λ b. h (a, b)))

  pick_seen : (x n : ℕ) {m o : Move} → (x ≡ n → Seen ρ s at t m) → Seen ρ s at t o → Seen ρ s at t (pick (eqb x n) m o)
  pick_seen x n {m} {o} h k = go (eqb x n) (eqb-true x n)
    where
      go : (b : Bool) → (b ≡ true → x ≡ n) → Seen ρ s at t (pick b m o)
      go true e = h (e refl)
      go false e = k

module _ (ρ : Rules) (s : List ℕ) (at : ℕ) (t : ReadState) where
  obey_seen : (f : List ℕ → ℕ → Command) → at < length s → offers ρ (f s at) ≡ true → byte (command_bytes (f s at)) 0 ≡ byte s at → Seen ρ s at t (obey f ρ s at t)
  unfolding obey
  obey_seen f l o b = checks_seen (command_tests ρ s at t (f s at)) at (λ h. obeys (f s at) (record { inside = l; begins = b; offered = o; operands = h.1.1 }))

  seen : Seen ρ s at t (command_at ρ s at t)
  unfolding command_at end_at
  seen = check_seen (ltb at (length s)) EndsEarly at (λ e. let l = ltb-true at (length s) e in
      pick_seen (byte s at) 0x43 (λ b. obey_seen pair_at l refl (sym b))
      (pick_seen (byte s at) 0x52 (λ b. obey_seen run_at l refl (sym b))
      (pick_seen (byte s at) 0x53 (λ b. obey_seen single_at l refl (sym b))
      (pick_seen (byte s at) 0x54 (λ b. check_seen ρ.has_transfers NoCommand at (λ o. obey_seen transfer_at l o (sym b)))
      (pick_seen (byte s at) 0x42 (λ b. check_seen ρ.has_cuts NoCommand at (λ o. obey_seen cut_at l o (sym b)))
      (pick_seen (byte s at) 0x48 (λ b. obey_seen done_at l refl (sym b))
      (pick_seen (byte s at) 0x45 (λ b. check_seen (leb (length s) (at + 1)) BytesAfterEnd (at + 1) (λ e. ends b))
      refuses)))))))

-- ---- reading comes to an offset with commands enough left

-- reading goes on further behind, and only from a byte
advances : (ρ : Rules) (s : List ℕ) (at : ℕ) (t : ReadState) (at' : ℕ) (t' : ReadState) → command_at ρ s at t ≡ on at' t' → (at < length s) × (at < at')
advances ρ s at t at' t' e = go (seen ρ s at t) e
  where
    go : {m : Move} → Seen ρ s at t m → m ≡ on at' t' → (at < length s) × (at < at')
    go refuses e = let z : ◌≡◌ {A = ℕ} 0 1 = cc in absurd (omega arith)
    go (obeys c h) e = let n : at + width c ≡ at' = cc in (h.inside, omega (arith, width_positive c))
    go (ends b) e = let z : ◌≡◌ {A = ℕ} 0 1 = cc in absurd (omega arith)

record Left (ρ : Rules) (s : List ℕ) (at : ℕ) (t : ReadState) : Type 0 where
  commands : ℕ
  enough : length s < commands + at
  reads : read_by ρ s ≡ read_from ρ commands s at t

left : {ρ : Rules} {s : List ℕ} {at : ℕ} {t : ReadState} → Reaches ρ s at t → Left ρ s at t
unfolding read_by read_commands read_from
left {ρ} {s} (at_start l) = record { commands = suc (length s); enough = omega arith; reads = rw (le-leb (length s) ρ.length_limit l) }
left {ρ} {s} (behind {at} {at'} {t} {t'} r e) = let a = advances ρ s at t at' t' e in let l = left r in go a l.commands l.enough l.reads
  where
    go : (at < length s) × (at < at') → (k : ℕ) → length s < k + at → read_by ρ s ≡ read_from ρ k s at t → Left ρ s at' t'
    go a zero n q = absurd (omega (arith, a.0))
    go a (suc k) n q = record { commands = k; enough = omega (arith, a.1); reads = q ∙ rw e }

-- what the reader does with the command that reading comes to
reads_on : {ρ : Rules} {s : List ℕ} {at : ℕ} {t : ReadState} → Reaches ρ s at t → at < length s
    → (k : ℕ) × (read_by ρ s ≡ follow (command_at ρ s at t) (read_from ρ k s))
unfolding read_from
reads_on {ρ} {s} {at} {t} r i = let l = left r in go l.commands l.enough l.reads
  where
    go : (k : ℕ) → length s < k + at → read_by ρ s ≡ read_from ρ k s at t → (k : ℕ) × (read_by ρ s ≡ follow (command_at ρ s at t) (read_from ρ k s))
    go zero n q = absurd (omega arith)
    go (suc k) n q = (k, q)

-- ---- the first 54

-- both readers come to a 54, at most at an offset
record First (ρ : Rules) (s : List ℕ) (at : ℕ) : Type 0 where
  place : ℕ
  state : ReadState
  before : Reaches (earlier ρ) s place state
  now : Reaches ρ s place state
  is_54 : byte s place ≡ 0x54
  low : place ≤ at

follows : {ρ : Rules} {s : List ℕ} {at : ℕ} {t : ReadState} → Reaches ρ s at t → Reaches (earlier ρ) s at t ⊎ First ρ s at
follows (at_start l) = inl (at_start l)
follows {ρ} {s} (behind {at} {at'} {t} {t'} r e) = go (advances ρ s at t at' t' e).1 (follows r)
  where
    byte_cases : Reaches (earlier ρ) s at t → at < at' → Compared (byte s at) 0x54 → Reaches (earlier ρ) s at' t' ⊎ First ρ s at'
    byte_cases q l (inl c) = inr (record { place = at; state = t; before = q; now = r; is_54 = c.1; low = omega arith })
    byte_cases q l (inr c) = inl (behind q (command_same ρ s at t c.1 ∙ e))

    go : at < at' → Reaches (earlier ρ) s at t ⊎ First ρ s at → Reaches (earlier ρ) s at' t' ⊎ First ρ s at'
    go l (inl q) = byte_cases q l (eq_cases (byte s at) 0x54)
    go l (inr f) = inr (record { place = f.place; state = f.state; before = f.before; now = f.now; is_54 = f.is_54; low = omega (arith, f.low) })

module _ (ρ : Rules) (s : List ℕ) where
  first_54 : (at : ℕ) → Has54 ρ s at → First ρ s at
  first_54 at h = go (follows h.reached)
    where
      go : Reaches (earlier ρ) s at h.state ⊎ First ρ s at → First ρ s at
      go (inl q) = record { place = at; state = h.state; before = q; now = h.reached; is_54 = h.is_54; low = le_refl at }
      go (inr f) = f

  refused_there : (at : ℕ) (f : First ρ s at) → read_by (earlier ρ) s ≡ refused NoCommand f.place
  refused_there at f =
      let l = inside_54 s f.place f.is_54 in
      let r = reads_on f.before l in
      r.1 ∙ rw (no_command ρ s f.place f.state f.is_54 l)

  refused_before : (place : ℕ) → Has54 ρ s place → read_by (earlier ρ) s ≡ refused NoCommand place → RefusedBefore ρ s
  refused_before place h e = record {
    place = place;
    has_54 = h;
    first = λ at k.
        let f = first_54 at k in
        let q : refused NoCommand place ≡ refused NoCommand f.place = sym e ∙ refused_there at f in
        let p : place ≡ f.place = cc in
        omega (arith, f.low);
    answer = e;
  }

  with_54 : (at : ℕ) → Has54 ρ s at → RefusedBefore ρ s
  with_54 at h =
      let f = first_54 at h in
      refused_before f.place (record { state = f.state; reached = f.now; inside = inside_54 s f.place f.is_54; is_54 = f.is_54 }) (refused_there at f)

  -- ---- read as before, or refused before

  abbrev Either : Outcome → Outcome → Type 0
  Either now before = (now ≡ before) ⊎ ((place : ℕ) × Has54 ρ s place × (before ≡ refused NoCommand place))

  from_either : (k at : ℕ) (t : ReadState) → Reaches ρ s at t → Either (read_from ρ k s at t) (read_from (earlier ρ) k s at t)
  unfolding read_from
  from_either zero at t r = inl refl
  from_either (suc k) at t r = go (from_either k) (eq_cases (byte s at) 0x54)
    where
      go : ((at : ℕ) (t : ReadState) → Reaches ρ s at t → Either (read_from ρ k s at t) (read_from (earlier ρ) k s at t)) → Compared (byte s at) 0x54
          → Either (follow (command_at ρ s at t) (read_from ρ k s)) (follow (command_at (earlier ρ) s at t) (read_from (earlier ρ) k s))
      go later (inl c) =
          let l = inside_54 s at c.1 in
          inr (at, record { state = t; reached = r; inside = l; is_54 = c.1 }, rw (no_command ρ s at t c.1 l))
      go later (inr c) = rw (command_same ρ s at t c.1) (move (command_at ρ s at t) refl)
        where
          move : (m : Move) → command_at ρ s at t ≡ m → Either (follow m (read_from ρ k s)) (follow m (read_from (earlier ρ) k s))
          move (on at' t') e = later at' t' (behind r e)
          move (over o) e = inl refl

  either : Either (read_by ρ s) (read_by (earlier ρ) s)
  unfolding read_by read_commands
  either = go (leb (length s) ρ.length_limit) (leb-true (length s) ρ.length_limit)
    where
      go : (b : Bool) → (b ≡ true → length s ≤ ρ.length_limit)
          → Either (pick b (read_from ρ (suc (length s)) s 0 start) (refused BookTooLong 0)) (pick b (read_from (earlier ρ) (suc (length s)) s 0 start) (refused BookTooLong 0))
      go true l = from_either (suc (length s)) 0 start (at_start (l refl))
      go false l = inl refl

  without_54 : ((at : ℕ) → ¬ Has54 ρ s at) → read_by ρ s ≡ read_by (earlier ρ) s
  without_54 n = go either
    where
      go : Either (read_by ρ s) (read_by (earlier ρ) s) → read_by ρ s ≡ read_by (earlier ρ) s
      go (inl e) = e
      go (inr h) = absurd (n h.0 h.1)

-- ---- the transfers of an accepted book

abbrev Single : Step → Type 0
Single (single t) = Unit {0}
Single (transfer t u) = ⊥

abbrev Singles : List Step → Type 0
Singles [] = Unit {0}
Singles (x ∷ xs) = Single x × Singles xs

abbrev AllSingles : List (List Step) → Type 0
AllSingles [] = Unit {0}
AllSingles (r ∷ rs) = Singles r × AllSingles rs

to_single : (x : Step) → x ≡ single (touch_of x) → Single x
to_single x e = subst Single (sym e) tt

from_single : (x : Step) → Single x → x ≡ single (touch_of x)
from_single (single t) h = refl
from_single (transfer t u) h = absurd h

to_singles : (xs : List Step) → ((i : ℕ) → i < length xs → get_or xs i no_step ≡ single (touch_of (get_or xs i no_step))) → Singles xs
to_singles [] h = tt
to_singles (x ∷ xs) h = (to_single x (h 0 (omega arith)), to_singles xs (λ i l. h (suc i) (omega arith)))

from_singles : (xs : List Step) → Singles xs → (i : ℕ) → i < length xs → get_or xs i no_step ≡ single (touch_of (get_or xs i no_step))
from_singles [] h i l = absurd (omega arith)
from_singles (x ∷ xs) h zero l = from_single x h.0
from_singles (x ∷ xs) h (suc i) l = from_singles xs h.1 i (omega arith)

to_all : (rs : List (List Step)) → WithoutTransfers rs → AllSingles rs
to_all [] h = tt
to_all (r ∷ rs) h = (to_singles r (h 0), to_all rs (λ k. h (suc k)))

from_all : (rs : List (List Step)) → AllSingles rs → WithoutTransfers rs
from_all [] h k i l = absurd (omega arith)
from_all (r ∷ rs) h zero i l = from_singles r h.0 i l
from_all (r ∷ rs) h (suc k) i l = from_all rs h.1 k i l

-- a step more at the end of a run, of the last run; a run more
singles_front : (xs : List Step) (x : Step) → Singles (xs ++ x ∷ []) → Singles xs × Single x
singles_front [] x h = (tt, h.0)
singles_front (y ∷ ys) x h = let r = singles_front ys x h.1 in ((h.0, r.0), r.1)

singles_more : (xs : List Step) (x : Step) → Singles xs → Single x → Singles (xs ++ x ∷ [])
singles_more [] x h k = (k, tt)
singles_more (y ∷ ys) x h k = (h.0, singles_more ys x h.1 k)

last_front : (rs : List (List Step)) (x : Step) → AllSingles (add_last rs x) → AllSingles rs
last_front [] x h = tt
last_front (r ∷ []) x h = ((singles_front r x h.0).0, tt)
last_front (r ∷ q ∷ qs) x h = (h.0, last_front (q ∷ qs) x h.1)

last_single : (rs : List (List Step)) (x : Step) → 0 < length rs → AllSingles (add_last rs x) → Single x
last_single [] x l h = absurd (omega arith)
last_single (r ∷ []) x l h = (singles_front r x h.0).1
last_single (r ∷ q ∷ qs) x l h = last_single (q ∷ qs) x (omega arith) h.1

last_more : (rs : List (List Step)) (x : Step) → AllSingles rs → Single x → AllSingles (add_last rs x)
last_more [] x h k = tt
last_more (r ∷ []) x h k = (singles_more r x h.0 k, tt)
last_more (r ∷ q ∷ qs) x h k = (h.0, last_more (q ∷ qs) x h.1 k)

run_front : (rs : List (List Step)) → AllSingles (rs ++ [] ∷ []) → AllSingles rs
run_front [] h = tt
run_front (r ∷ rs) h = (h.0, run_front rs h.1)

run_more : (rs : List (List Step)) → AllSingles rs → AllSingles (rs ++ [] ∷ [])
run_more [] h = (tt, tt)
run_more (r ∷ rs) h = (h.0, run_more rs h.1)

-- no command takes a step away
front : (c : Command) (d : Contents) → AllSingles (effect c d).runs → AllSingles d.runs
front (pair p) d h = h
front (run r) d h = run_front d.runs h
front (step x) d h = last_front d.runs x h
front (cut c) d h = h
front (done r) d h = h

-- none but a 54 adds a transfer
more : (ρ : Rules) (c : Command) (d : Contents) → offers (earlier ρ) c ≡ true → AllSingles d.runs → AllSingles (effect c d).runs
more ρ (pair p) d o h = h
more ρ (run r) d o h = run_more d.runs h
more ρ (step (single t)) d o h = last_more d.runs (single t) h tt
more ρ (step (transfer t u)) d o h = let z : ◌≡◌ {A = ℕ} 0 1 = cc in absurd (omega arith)
more ρ (cut c) d o h = h
more ρ (done r) d o h = h

module _ (ρ : Rules) (s : List ℕ) (d : Contents) where
  -- how an accepting reader goes on
  accepting : {P : Type 0} (k at : ℕ) (t : ReadState) → follow (command_at ρ s at t) (read_from ρ k s) ≡ accepted d
      → ((c : Command) → Obeyed ρ s at t c → read_from ρ k s (at + width c) (next_state c t) ≡ accepted d → P) → (byte s at ≡ 0x45 → t.contents ≡ d → P) → P
  accepting {P} k at t e f g = go (seen ρ s at t) e
    where
      go : {m : Move} → Seen ρ s at t m → follow m (read_from ρ k s) ≡ accepted d → P
      go (refuses {c} {p}) e = not_accepted c p d e
      go (obeys c h) e = f c h e
      go (ends b) e = g b (cc e)

  from_start : read_by ρ s ≡ accepted d → read_from ρ (suc (length s)) s 0 start ≡ accepted d
  unfolding read_by read_commands
  from_start e = go (leb (length s) ρ.length_limit) e
    where
      go : (b : Bool) → pick b (read_from ρ (suc (length s)) s 0 start) (refused BookTooLong 0) ≡ accepted d → read_from ρ (suc (length s)) s 0 start ≡ accepted d
      go true e = e
      go false e = not_accepted BookTooLong 0 d e

  -- contents without a transfer had none at any time
  none_before : (k at : ℕ) (t : ReadState) → read_from ρ k s at t ≡ accepted d → AllSingles d.runs → AllSingles t.contents.runs
  unfolding read_from
  none_before zero at t e w = not_accepted EndsEarly at d e
  none_before (suc k) at t e w =
      accepting k at t e (λ c o q. front c t.contents (none_before k (at + width c) (next_state c t) q w)) (λ b q. rw q w)

  -- so no 54 was read
  none_read : read_by ρ s ≡ accepted d → AllSingles d.runs → (at : ℕ) → ¬ Has54 ρ s at
  unfolding operand_tests
  none_read e w at h = let r = reads_on h.reached h.inside in accepting r.0 at h.state (sym r.1 ∙ e) (go r.0) (λ b q. omega (arith, h.is_54))
    where
      go : (k : ℕ) (c : Command) → Obeyed ρ s at h.state c → read_from ρ k s (at + width c) (next_state c h.state) ≡ accepted d → ⊥
      go k (pair p) o q = omega (arith, o.begins, h.is_54)
      go k (run r) o q = omega (arith, o.begins, h.is_54)
      go k (step (single a)) o q = omega (arith, o.begins, h.is_54)
      go k (step (transfer a b)) o q =
          last_single h.state.contents.runs (transfer a b) (ltb-true _ _ o.operands.0) (none_before k (at + 7) (next_state (step (transfer a b)) h.state) q w)
      go k (cut c) o q = omega (arith, o.begins, h.is_54)
      go k (done r) o q = omega (arith, o.begins, h.is_54)

module _ (ρ : Rules) (s : List ℕ) (d : Contents) where
  -- the earlier reader has read no transfer
  none_after : (k at : ℕ) (t : ReadState) → read_from (earlier ρ) k s at t ≡ accepted d → AllSingles t.contents.runs → AllSingles d.runs
  unfolding read_from
  none_after zero at t e w = not_accepted EndsEarly at d e
  none_after (suc k) at t e w =
      accepting (earlier ρ) s d k at t e (λ c o q. none_after k (at + width c) (next_state c t) q (more ρ c t.contents o.offered w)) (λ b q. rw (← q) w)

  still_accepted : read_by (earlier ρ) s ≡ accepted d → (read_by ρ s ≡ accepted d) × WithoutTransfers d.runs
  still_accepted e = (go (either ρ s), from_all d.runs (none_after (suc (length s)) 0 start (from_start (earlier ρ) s d e) tt))
    where
      go : Either ρ s (read_by ρ s) (read_by (earlier ρ) s) → read_by ρ s ≡ accepted d
      go (inl q) = q ∙ e
      go (inr h) = not_accepted NoCommand h.0 d (sym h.2 ∙ e)

  accepted_before : read_by ρ s ≡ accepted d → WithoutTransfers d.runs → read_by (earlier ρ) s ≡ accepted d
  accepted_before e w = sym (without_54 ρ s (none_read ρ s d e (to_all d.runs w))) ∙ e

  newly_accepted : read_by ρ s ≡ accepted d → ¬ WithoutTransfers d.runs → RefusedBefore ρ s
  newly_accepted e n = go (either ρ s)
    where
      go : Either ρ s (read_by ρ s) (read_by (earlier ρ) s) → RefusedBefore ρ s
      go (inl q) = absurd (n (still_accepted (sym q ∙ e)).1)
      go (inr h) = refused_before ρ s h.0 h.1 h.2

pub earlier_reader : EarlierReader
earlier_reader = record {
  without_54 = without_54;
  with_54 = with_54;
  still_accepted = still_accepted;
  accepted_before = accepted_before;
  newly_accepted = newly_accepted;
}
