-- The rows for a book of document 01's table, "When something is turned away", with document 02's changes 1 and 6: what is wrong, the number of that
-- refusal, and its place. proofs/BookTable: a book is refused with a number at a place exactly where a row here says so.
use Rattle.std.specs.Prelude.{ℕ, ◌+◌, ◌≤◌, ◌<◌, ◌≡◌, ◌≢◌, List, [], ◌∷◌, length, get_or}
use Rattle.theory.specs.Lists.{sum}
use Rattle.theory.specs.History.{count}
use Rattle.theory.specs.Deck.{Pair, Touch, Step, Cut}
use Rattle.theory.specs.Transfers.{TouchOf}
use Rattle.book.specs.Format.{Command, pair, run, step, cut, done, ReadState, start, next_state, byte, last, lengths, width, group_of, pair_at, run_at, single_at, transfer_at, cut_at, done_at}
use Rattle.book.specs.TestOrder.{rank}

-- the limits of a book's bytes, else it is refused by 1, and of its steps, else by 31; a judge's buffer under so many bytes is refused by 12
abbrev pub most_bytes : ℕ
most_bytes = 16384

abbrev pub most_steps : ℕ
most_steps = 128

-- the list ends in x
pub data LastIs {A : Type 0} : List A → A → Type 0 where
  the_last : {x : A} → LastIs (x ∷ []) x
  before_last : {x y : A} {l : List A} → LastIs l x → LastIs (y ∷ l) x

-- the pair p is not above q, compared left to right: a first, then b
pub data NotAbovePair (p q : Pair) : Type 0 where
  a_below : p.a < q.a → NotAbovePair p q
  b_not_above : p.a ≡ q.a → p.b ≤ q.b → NotAbovePair p q

-- the triple (r, j, o) of c is not above that of q, compared left to right
pub data NotAboveCut (c q : Cut) : Type 0 where
  r_below : c.of_run < q.of_run → NotAboveCut c q
  j_below : c.of_run ≡ q.of_run → c.after < q.after → NotAboveCut c q
  o_not_above : c.of_run ≡ q.of_run → c.after ≡ q.after → c.seen_by ≤ q.seen_by → NotAboveCut c q

module _ (s : List ℕ) where
  -- a command begins at the offset, by its first byte
  pub data CommandAt (at : ℕ) : Command → Type 0 where
    is_43 : byte s at ≡ 0x43 → CommandAt at (pair_at s at)
    is_52 : byte s at ≡ 0x52 → CommandAt at (run_at s at)
    is_53 : byte s at ≡ 0x53 → CommandAt at (single_at s at)
    is_54 : byte s at ≡ 0x54 → CommandAt at (transfer_at s at)
    is_42 : byte s at ≡ 0x42 → CommandAt at (cut_at s at)
    is_48 : byte s at ≡ 0x48 → CommandAt at (done_at s at)

  -- a byte that is no command
  pub record NoCommandAt (at : ℕ) : Type 0 where
    pub no_43 : byte s at ≢ 0x43
    pub no_52 : byte s at ≢ 0x52
    pub no_53 : byte s at ≢ 0x53
    pub no_54 : byte s at ≢ 0x54
    pub no_42 : byte s at ≢ 0x42
    pub no_48 : byte s at ≢ 0x48
    pub no_45 : byte s at ≢ 0x45

  -- what is wrong with a command at an offset, where the state is t, and its number
  pub data Fault (at : ℕ) (t : ReadState) : Command → ℕ → Type 0 where
    -- 3: the book ends inside operands
    inside_operands : {c : Command} → length s < at + width c → Fault at t c 3
    -- 4: command after a later group, or 53 or 54 before any 52
    after_later_group : {c : Command} → group_of c < t.group → Fault at t c 4
    before_any_52 : {x : Step} → length t.contents.runs ≡ 0 → Fault at t (step x) 4
    -- 5: kind above 15, or a above b; in 54 either kind
    a_above_15 : {p : Pair} → 15 < p.a → Fault at t (pair p) 5
    b_above_15 : {p : Pair} → 15 < p.b → Fault at t (pair p) 5
    a_above_b : {p : Pair} → p.b < p.a → Fault at t (pair p) 5
    kind_above_15 : {x : Step} {u : Touch} → TouchOf x u → 15 < u.kind → Fault at t (step x) 5
    -- 6: pair or triple not above the one before
    pair_not_above : {p q : Pair} → LastIs t.contents.pairs q → NotAbovePair p q → Fault at t (pair p) 6
    triple_not_above : {c q : Cut} → LastIs t.contents.cuts q → NotAboveCut c q → Fault at t (cut c) 6
    -- 7: in 52 not the count so far; in 42 or 48 any run undeclared; in 42 r equal to o
    not_the_count : {r : ℕ} → r ≢ length t.contents.runs → Fault at t (run r) 7
    cut_undeclared : {c : Cut} → length t.contents.runs ≤ c.of_run → Fault at t (cut c) 7
    viewer_undeclared : {c : Cut} → length t.contents.runs ≤ c.seen_by → Fault at t (cut c) 7
    seen_by_itself : {c : Cut} → c.of_run ≡ c.seen_by → Fault at t (cut c) 7
    done_undeclared : {r : ℕ} → length t.contents.runs ≤ r → Fault at t (done r) 7
    -- 8: 17th run
    run_17 : {r : ℕ} → 16 ≤ length t.contents.runs → Fault at t (run r) 8
    -- 9: j is 0, or not below the steps of r
    after_step_0 : {c : Cut} → c.after ≡ 0 → Fault at t (cut c) 9
    not_below_steps : {c : Cut} → get_or (lengths t.contents.runs) c.of_run 0 ≤ c.after → Fault at t (cut c) 9
    -- 10: 48 for a run with no step left
    no_step_left : {r : ℕ} → get_or (lengths t.contents.runs) r 0 ≤ count t.contents.history r → Fault at t (done r) 10
    -- 30: 33rd step of a run, a transfer counting as one
    step_33_of_run : {x : Step} → 32 ≤ last (lengths t.contents.runs) → Fault at t (step x) 30
    -- 31: step of the book over the limit, a transfer counting as one
    step_over_most : {x : Step} → most_steps ≤ sum (lengths t.contents.runs) → Fault at t (step x) 31

  -- commands without a fault are read in turn: reading comes to this offset, and the state has the group of the last command and the contents so far
  pub data ReadTo : ℕ → ReadState → Type 0 where
    from_start : ReadTo 0 start
    behind : {at : ℕ} {t : ReadState} {c : Command} → ReadTo at t → at < length s → CommandAt at c → ((n : ℕ) → ¬ Fault at t c n) → ReadTo (at + width c) (next_state c t)

  -- a book's refusal: number and place
  pub data BookRow : ℕ → ℕ → Type 0 where
    -- 1: book over the limit of bytes; place 0. It comes first
    book_over : most_bytes < length s → BookRow 1 0
    -- 2: byte that is no command; its offset
    no_command : {at : ℕ} {t : ReadState} → length s ≤ most_bytes → ReadTo at t → at < length s → NoCommandAt at → BookRow 2 at
    -- 3: book ends before 45; the length, where no command began
    before_45 : {t : ReadState} → length s ≤ most_bytes → ReadTo (length s) t → BookRow 3 (length s)
    -- a fault of the command: its offset; of several faults the first in the order of the tests
    at_command : {at n : ℕ} {t : ReadState} {c : Command} → length s ≤ most_bytes → ReadTo at t → at < length s → CommandAt at c → Fault at t c n
        → ((m : ℕ) → rank m < rank n → ¬ Fault at t c m) → BookRow n at
    -- 11: bytes after 45; the offset of the first
    after_45 : {at : ℕ} {t : ReadState} → length s ≤ most_bytes → ReadTo at t → byte s at ≡ 0x45 → at + 1 < length s → BookRow 11 (at + 1)

-- no row turns the book away: it is accepted
abbrev pub NoRow : List ℕ → Type 0
NoRow s = (n place : ℕ) → ¬ BookRow s n place
