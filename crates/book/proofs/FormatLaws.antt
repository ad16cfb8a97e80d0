-- The format as a relation between states: when a command is permitted, which bytes it has, and where it leads. The reader accepts along this
-- relation and no other way (`command_read`, `end_read`, `next`), under any rules.
use Prim.Native.Nat.{ℕ, zero, suc, ◌+◌, ◌*◌, ◌/◌, ◌%◌, ◌-◌, ◌≤◌, ◌<◌}
use mathlib.Core.Path.{◌≡◌, refl, ap, sym, ◌∙◌}
use mathlib.Core.List.{List, [], ◌∷◌, ◌++◌}
use mathlib.Core.Bool.{Bool, true, false}
use native.Mathlib.Omega.{arith}
use borrow.Author.Tests.{ltb-true, leb-true, eqb-true, lt-ltb, le-leb}
use lib.ListN.{length, get_or, drop, length-drop, length-append, drop_of_length-le}
use lib.Seq.{drop-cons, get_or-drop}
use lib.Dec.{ltb, leb, eqb}
use Rattle.book.specs.Format.{Contents, Outcome, refused, accepted, pick, byte, Bytes, Command, pair, run, step, cut, done, command_bytes, width, group_of, operand_tests, Test, test, ReadState, Move, over, check, checks, command_tests, next_state, obeyed, pair_at, run_at, single_at, transfer_at, cut_at, done_at, obey, end_at, command_at, follow, start}
use Rattle.theory.specs.Deck.{single, transfer}
use Rattle.book.specs.declared.Rules.{Rules}
use Rattle.book.specs.declared.Cause.{Cause}
use Rattle.book.specs.declared.Cause.TheVariants.{EndsEarly, NoCommand, BytesAfterEnd}
use Rattle.book.proofs.Ladder.{Holds, checks_hold}

pub width_positive : (c : Command) → 0 < width c
width_positive (pair p) = omega arith
width_positive (run r) = omega arith
width_positive (step (single t)) = omega arith
width_positive (step (transfer t u)) = omega arith
width_positive (cut c) = omega arith
width_positive (done r) = omega arith

-- the rules have the command
abbrev pub offers : Rules → Command → Bool
offers ρ (pair p) = true
offers ρ (run r) = true
offers ρ (step (single t)) = true
offers ρ (step (transfer t u)) = ρ.has_transfers
offers ρ (cut c) = ρ.has_cuts
offers ρ (done r) = true

-- a command is permitted in a state
pub record Permitted (ρ : Rules) (t : ReadState) (c : Command) : Type 0 where
  pub offered : offers ρ c ≡ true
  pub group : t.group ≤ group_of c
  pub operands : Holds (operand_tests ρ t.contents c)
  pub bytes : Bytes (command_bytes c)

-- the states that commands lead to from the start
pub data WellFormed (ρ : Rules) : ReadState → Type 0 where
  empty : WellFormed ρ start
  more : {t : ReadState} → WellFormed ρ t → (c : Command) → Permitted ρ t c → WellFormed ρ (next_state c t)

-- the contents of a book: commands lead there from the start
pub record IsBook (ρ : Rules) (d : Contents) : Type 0 where
  pub state : ReadState
  pub well_formed : WellFormed ρ state
  pub contents : state.contents ≡ d

-- ---- a permitted command is read, and so is the end

module _ (s l : List ℕ) (at : ℕ) (e : drop at s ≡ l) where
  byte_at : (i : ℕ) → byte s (at + i) ≡ byte l i
  byte_at i = sym (get_or-drop at s i 0) ∙ ap (λ (l : List ℕ). get_or l i 0) e

  first_byte : byte s at ≡ byte l 0
  first_byte = ap (λ (k : ℕ). get_or s k 0) (omega arith) ∙ byte_at 0

  length_at : length s - at ≡ length l
  length_at = sym (length-drop at s) ∙ ap length e

module _ (ρ : Rules) (s rest : List ℕ) (at : ℕ) (t : ReadState) where
  obey_read : (f : List ℕ → ℕ → Command) (c : Command) → f s at ≡ c → Permitted ρ t c → drop at s ≡ command_bytes c ++ rest → obey f ρ s at t ≡ obeyed c at t
  unfolding obey
  obey_read f c e h d =
      let l : width c ≤ length s - at = omega (arith, length_at s _ at d, length-append (command_bytes c) rest) in
      rw e (checks_hold (command_tests ρ s at t c) at _ (le-leb _ _ l, (le-leb _ _ h.group, h.operands)))

  begun : (c : Command) → drop at s ≡ command_bytes c ++ rest → ltb at (length s) ≡ true
  begun c d = lt-ltb at (length s) (omega (arith, width_positive c, length_at s _ at d, length-append (command_bytes c) rest))

  -- a position, of its two bytes
  joined : (p : ℕ) → p / 256 * 256 + p % 256 ≡ p
  joined p = omega arith

  pub command_read : (c : Command) → Permitted ρ t c → drop at s ≡ command_bytes c ++ rest → command_at ρ s at t ≡ obeyed c at t
  unfolding command_at
  command_read (pair p) h d =
      rw (begun (pair p) d, first_byte s _ at d) (obey_read pair_at (pair p) (rw (byte_at s _ at d 1, byte_at s _ at d 2)) h d)
  command_read (run r) h d =
      rw (begun (run r) d, first_byte s _ at d) (obey_read run_at (run r) (rw (byte_at s _ at d 1)) h d)
  command_read (step (single t)) h d =
      rw (begun (step (single t)) d, first_byte s _ at d) (obey_read single_at (step (single t)) (rw (byte_at s _ at d 1, byte_at s _ at d 2, byte_at s _ at d 3, joined t.position)) h d)
  command_read (step (transfer t u)) h d =
      rw (begun (step (transfer t u)) d, first_byte s _ at d) (checks_hold (test ρ.has_transfers NoCommand ∷ []) at _ (h.offered, tt)
      ∙ obey_read transfer_at (step (transfer t u))
      (rw (byte_at s _ at d 1, byte_at s _ at d 2, byte_at s _ at d 3, byte_at s _ at d 4, byte_at s _ at d 5, byte_at s _ at d 6, joined t.position, joined u.position)) h d)
  command_read (cut c) h d =
      rw (begun (cut c) d, first_byte s _ at d) (checks_hold (test ρ.has_cuts NoCommand ∷ []) at _ (h.offered, tt) ∙ obey_read cut_at (cut c) (rw (byte_at s _ at d 1, byte_at s _ at d 2, byte_at s _ at d 3)) h d)
  command_read (done r) h d =
      rw (begun (done r) d, first_byte s _ at d) (obey_read done_at (done r) (rw (byte_at s _ at d 1)) h d)

pub end_read : (ρ : Rules) (s : List ℕ) (at : ℕ) (t : ReadState) → drop at s ≡ 0x45 ∷ [] → command_at ρ s at t ≡ over (accepted t.contents)
unfolding command_at end_at
end_read ρ s at t d =
    let n = length_at s _ at d in
    rw (lt-ltb at (length s) (omega arith), first_byte s _ at d) (rw (le-leb (length s) (at + 1) (omega arith)))

-- ---- what an accepting reader has read is a permitted command, or the end

pub not_accepted : {P : Type 0} (c : Cause) (p : ℕ) (d : Contents) → refused c p ≡ accepted d → P
not_accepted c p d e = let z : ◌≡◌ {A = ℕ} 0 1 = cc in absurd (omega arith)

module _ (f : ℕ → ReadState → Outcome) (d : Contents) where
  abbrev Leads : Move → Type 0
  Leads m = follow m f ≡ accepted d

  check_passed : (b : Bool) (c : Cause) (p : ℕ) (m : Move) → Leads (check b c p m) → (b ≡ true) × Leads m
  check_passed true c p m e = (refl, e)
  check_passed false c p m e = not_accepted c p d e

  checks_passed : (ts : List Test) (at : ℕ) (m : Move) → Leads (checks ts at m) → Holds ts × Leads m
  checks_passed [] at m e = (tt, e)
  checks_passed (t ∷ ts) at m e =
      let h = check_passed t.holds t.cause at (checks ts at m) e in
      let r = checks_passed ts at m h.1 in
      ((h.0, r.0), r.1)

  branch : {P : Type 0} (x n : ℕ) (m o : Move) → Leads (pick (eqb x n) m o) → (x ≡ n → Leads m → P) → (Leads o → P) → P
  branch {P} x n m o e g h = go (eqb x n) (eqb-true x n) e
    where
      go : (b : Bool) → (b ≡ true → x ≡ n) → Leads (pick b m o) → P
      go true q e = g (q refl) e
      go false q e = h e

-- n operands of the command at an offset, from the k-th on
abbrev operands : List ℕ → ℕ → ℕ → ℕ → List ℕ
operands s at k zero = []
operands s at k (suc n) = byte s (at + k) ∷ operands s at (suc k) n

bytes_front : (xs rest : List ℕ) → Bytes (xs ++ rest) → Bytes xs
bytes_front [] rest h i = omega arith
bytes_front (x ∷ xs) rest h zero = h 0
bytes_front (x ∷ xs) rest h (suc i) = bytes_front xs rest (λ i. h (suc i)) i

module _ (s : List ℕ) (at : ℕ) where
  drop_operands : (n k : ℕ) → at + k + n ≤ length s → drop (at + k) s ≡ operands s at k n ++ drop (at + (k + n)) s
  drop_operands zero k h = let e : k + 0 ≡ k = omega arith in rw e
  drop_operands (suc n) k h =
      let e : suc (at + k) ≡ at + suc k = omega arith in
      let m : k + suc n ≡ suc k + n = omega arith in
      rw (drop-cons s (at + k) 0 (omega arith), e, m) (ap (λ (l : List ℕ). byte s (at + k) ∷ l) (drop_operands n (suc k) (omega arith)))

  drop_command : (x n : ℕ) → byte s at ≡ x → at + suc n ≤ length s → drop at s ≡ x ∷ (operands s at 1 n ++ drop (at + suc n) s)
  drop_command x n b h =
      let e : suc at ≡ at + 1 = omega arith in
      let m : suc n ≡ 1 + n = omega arith in
      rw (drop-cons s at 0 (omega arith), b, e, m) (ap (λ (l : List ℕ). x ∷ l) (drop_operands n 1 (omega arith)))

-- how an accepting reader goes on
pub data Goes (ρ : Rules) (s : List ℕ) (at : ℕ) (t : ReadState) (f : ℕ → ReadState → Outcome) (d : Contents) : Type 0 where
  command : (c : Command) → Permitted ρ t c → drop at s ≡ command_bytes c ++ drop (at + width c) s → f (at + width c) (next_state c t) ≡ accepted d → Goes ρ s at t f d
  end : drop at s ≡ 0x45 ∷ [] → t.contents ≡ d → Goes ρ s at t f d

module _ (ρ : Rules) (s : List ℕ) (bytes : Bytes s) (at : ℕ) (t : ReadState) (f : ℕ → ReadState → Outcome) (d : Contents) where
  -- a command whose bytes are those at the offset
  obey_next : (g : List ℕ → ℕ → Command) → offers ρ (g s at) ≡ true
      → (at + width (g s at) ≤ length s → drop at s ≡ command_bytes (g s at) ++ drop (at + width (g s at)) s)
      → follow (obey g ρ s at t) f ≡ accepted d → Goes ρ s at t f d
  unfolding obey
  obey_next g o w e =
      let c = g s at in
      let h = checks_passed f d (command_tests ρ s at t c) at _ e in
      let b : drop at s ≡ command_bytes c ++ drop (at + width c) s = w (omega (arith, width_positive c, leb-true (width c) (length s - at) h.0.0)) in
      command c
      (record {
        offered = o;
        group = leb-true _ _ h.0.1.0;
        operands = h.0.1.1;
        bytes = bytes_front (command_bytes c) (drop (at + width c) s) (rw (← b) (λ i. rw (get_or-drop at s i 0) (bytes (at + i))));
      })
      b
      h.1

  -- the two bytes of a position
  high : (i j : ℕ) → (byte s i * 256 + byte s j) / 256 ≡ byte s i
  high i j = omega (arith, bytes j)

  low : (i j : ℕ) → (byte s i * 256 + byte s j) % 256 ≡ byte s j
  low i j = omega (arith, bytes j)

  single_next : byte s at ≡ 0x53 → at + 4 ≤ length s → drop at s ≡ command_bytes (single_at s at) ++ drop (at + 4) s
  single_next b l = rw (high (at + 2) (at + 3), low (at + 2) (at + 3)) (drop_command s at 0x53 3 b l)

  transfer_next : byte s at ≡ 0x54 → at + 7 ≤ length s → drop at s ≡ command_bytes (transfer_at s at) ++ drop (at + 7) s
  transfer_next b l = rw (high (at + 2) (at + 3), low (at + 2) (at + 3), high (at + 5) (at + 6), low (at + 5) (at + 6)) (drop_command s at 0x54 6 b l)

  end_next : at < length s → byte s at ≡ 0x45 → follow (end_at ρ s at t) f ≡ accepted d → Goes ρ s at t f d
  unfolding end_at
  end_next l b e =
      let h = check_passed f d (leb (length s) (at + 1)) BytesAfterEnd (at + 1) (over (accepted t.contents)) e in
      let q : accepted t.contents ≡ accepted d = h.1 in
      end (drop_command s at 0x45 0 b (omega arith) ∙ rw (drop_of_length-le s {i = at + 1} (leb-true _ _ h.0))) (cc q)

  pub next : follow (command_at ρ s at t) f ≡ accepted d → Goes ρ s at t f d
  unfolding command_at
  next e =
      let h = check_passed f d (ltb at (length s)) EndsEarly at _ e in
      branch f d (byte s at) 0x43 (obey pair_at ρ s at t) _ h.1 (λ b. obey_next pair_at refl (drop_command s at 0x43 2 b)) (λ e.
      branch f d (byte s at) 0x52 (obey run_at ρ s at t) _ e (λ b. obey_next run_at refl (drop_command s at 0x52 1 b)) (λ e.
      branch f d (byte s at) 0x53 (obey single_at ρ s at t) _ e (λ b. obey_next single_at refl (single_next b)) (λ e.
      branch f d (byte s at) 0x54 (check ρ.has_transfers NoCommand at (obey transfer_at ρ s at t)) _ e
      (λ b e. let c = check_passed f d ρ.has_transfers NoCommand at (obey transfer_at ρ s at t) e in obey_next transfer_at c.0 (transfer_next b) c.1) (λ e.
      branch f d (byte s at) 0x42 (check ρ.has_cuts NoCommand at (obey cut_at ρ s at t)) _ e
      (λ b e. let c = check_passed f d ρ.has_cuts NoCommand at (obey cut_at ρ s at t) e in obey_next cut_at c.0 (drop_command s at 0x42 3 b) c.1) (λ e.
      branch f d (byte s at) 0x48 (obey done_at ρ s at t) _ e (λ b. obey_next done_at refl (drop_command s at 0x48 1 b)) (λ e.
      branch f d (byte s at) 0x45 (end_at ρ s at t) _ e (end_next (ltb-true at (length s) h.0)) (λ e.
      not_accepted NoCommand at d e)))))))
