-- Laws of the bits of a table: in a word, in a table of zeros, of words combined, while a row is changed word by word, with a column more.
use mathlib.Core.Path.{◌≡◌, refl, sym, ap, ap₂, ◌∙◌}
use mathlib.Core.Bool.{cond}
use mathlib.Core.List.{List, ◌++◌}
use lib.Dec.{eqb}
use Prim.Native.Nat.{ℕ, zero, suc, ◌+◌, ◌-◌, ◌*◌, ◌/◌, ◌%◌, ◌^◌, ◌≤◌, ◌<◌, min, max}
use native.Mathlib.Decide.{ℕ_discrete, dec_lt}
use native.Mathlib.Omega.{arith}
use lib.Bits.{bit_and, bit_or, and_mask}
use lib.ListN.{length, get_or, take, drop, replicate}
use lib.Seq.{get_or-take, get_or-drop, length-take-le}
use borrow.Rule.Slice.PartMut.{put_mid}
use Rattle.std.proofs.lemmas.List.{get_or_append_left, get_or-append_right}
use borrow.Author.Tests.{eq-eqb, ne_eqb}
use Rattle.bits.specs.Table.{row_words, row_bits, bit, bit_at, union, intersection, difference, column, Alone, Marked, Replaced}
use Rattle.bits.specs.Inner.Words.{WordOf, RowChanged}
use Rattle.bits.proofs.Word.{bit_lt, bit_zero, bit_of_and, bit_of_or, one_here, one_other}

pub bit_at_lt : (t : List ℕ) (row col : ℕ) → bit_at t row col < 2
unfolding bit_at
bit_at_lt t row col = bit_lt (get_or t (row_words * row + col / 64) 0) (col % 64)

-- the bit of a word is that of the table
pub in_word : (t : List ℕ) (i row col : ℕ) → row_words * row + col / 64 ≡ i → bit (get_or t i 0) (col % 64) ≡ bit_at t row col
unfolding bit_at
in_word t i row col e = ap (λ (x : ℕ). bit (get_or t x 0) (col % 64)) (sym e)

-- the word k of a row has the row's columns
pub word_is : (t : List ℕ) (row : ℕ) {k i : ℕ} → row_words * row + k ≡ i → WordOf (bit_at t row) k (get_or t i 0)
word_is t row at = record { columns = λ c e. in_word t _ row c (omega arith) }

-- a word made of two words, bit by bit
pub word_by : (op : ℕ → ℕ → ℕ) {f g : ℕ → ℕ} {k a b : ℕ} (w : ℕ) → ((j : ℕ) → j < 64 → bit w j ≡ op (bit a j) (bit b j)) → WordOf f k a → WordOf g k b
    → WordOf (λ c. op (f c) (g c)) k w
word_by op w bits p q = record { columns = λ c e. bits (c % 64) (omega arith) ∙ ap₂ op (p.columns c e) (q.columns c e) }

pub word_or : {f g : ℕ → ℕ} {k a b : ℕ} → WordOf f k a → WordOf g k b → WordOf (union f g) k (bit_or a b)
word_or {a = a} {b} p q = word_by max _ (λ j h. bit_of_or a b j) p q

pub word_and : {f g : ℕ → ℕ} {k a b : ℕ} → WordOf f k a → WordOf g k b → WordOf (intersection f g) k (bit_and a b)
word_and {a = a} {b} p q = word_by min _ (λ j h. bit_of_and a b j) p q

pub word_outside : {f g : ℕ → ℕ} {k a b : ℕ} (w : ℕ) → ((j : ℕ) → j < 64 → bit w j ≡ difference (bit a) (bit b) j) → WordOf f k a → WordOf g k b
    → WordOf (difference f g) k w
word_outside w bits p q = word_by (λ x y. min x (1 - y)) w bits p q

-- where two tables have the same word, they have the same bits
same_word : (t u : List ℕ) (row col : ℕ) → get_or u (row_words * row + col / 64) 0 ≡ get_or t (row_words * row + col / 64) 0
    → bit_at u row col ≡ bit_at t row col
unfolding bit_at
same_word t u row col e = ap (λ (x : ℕ). bit x (col % 64)) e

-- g is the part of f in the word k
pub at_column : (f g : ℕ → ℕ) (k : ℕ) → ((c : ℕ) → c / 64 ≡ k → g (c % 64) ≡ f c) → (j : ℕ) → j < 64 → g j ≡ f (64 * k + j)
at_column f g k part j h =
    let e : (64 * k + j) % 64 ≡ j = omega arith in
    ap g (sym e) ∙ part (64 * k + j) (omega arith)

-- the code's test of a bit
pub read_bit : (t : List ℕ) (i row col : ℕ) → row_words * row + col / 64 ≡ i → bit_and (get_or t i 0 / 2 ^ (col % 64)) 1 ≡ bit_at t row col
read_bit t i row col e = and_mask (get_or t i 0 / 2 ^ (col % 64)) 1 ∙ in_word t i row col e

-- a table of zeros has no bit set
get_or_zeros : (n i : ℕ) → ◌≡◌ {A = ℕ} (get_or (replicate n zero) i zero) zero
get_or_zeros zero i = refl
get_or_zeros (suc n) zero = refl
get_or_zeros (suc n) (suc i) = get_or_zeros n i

pub zeros_bit : (n row col : ℕ) → bit_at (replicate n zero) row col ≡ 0
unfolding bit_at
zeros_bit n row col = ap (λ (x : ℕ). bit x (col % 64)) (get_or_zeros n (row_words * row + col / 64)) ∙ bit_zero (col % 64)

-- ---- a row changed word by word

-- u is t with the first k words of the row changed
pub record ChangedUpTo (given : ℕ → ℕ → ℕ → Type 0) (t u : List ℕ) (row k : ℕ) : Type 0 where
  pub row_given : (j : ℕ) → j < k → given j (get_or t (row_words * row + j) 0) (get_or u (row_words * row + j) 0)
  pub others : (i : ℕ) → ((i / row_words ≡ row) × (i % row_words < k) → ⊥) → get_or u i 0 ≡ get_or t i 0

-- the row's words, changed by themselves, put where they stood
pub row_put : {given : ℕ → ℕ → ℕ → Type 0} (t ws : List ℕ) (row n k : ℕ) → row_words * row + row_words ≤ length t → length ws ≡ row_words → n ≡ row_words
    → row_words ≤ k → ChangedUpTo given (take n (drop (row_words * row) t)) ws 0 k → RowChanged given t (put_mid (row_words * row) n t ws) row
row_put {given} t ws row n k room long e all c = record { row_given = here; others = others }
  where
    first : ℕ
    first = row_words * row

    rest : List ℕ
    rest = drop n (drop first t)

    u : List ℕ
    u = put_mid first n t ws

    head : length (take first t) ≡ first
    head = length-take-le first t (omega (arith, room))

    behind : (i : ℕ) → first ≤ i → get_or u i 0 ≡ get_or (ws ++ rest) (i - first) 0
    behind i h = get_or-append_right (take first t) (ws ++ rest) first i 0 head h

    here : (j : ℕ) → j < row_words → given j (get_or t (first + j) 0) (get_or u (first + j) 0)
    here j h =
        let was : get_or (take n (drop first t)) j 0 ≡ get_or t (first + j) 0 = get_or-take n (drop first t) j 0 (omega (arith, e)) ∙ get_or-drop first t j 0 in
        let now : get_or ws j 0 ≡ get_or u (first + j) 0 = sym (behind (first + j) (omega arith) ∙ ap (λ x. get_or (ws ++ rest) x 0) (omega arith) ∙ get_or_append_left ws rest 0 j (omega (arith, long))) in
        let place : row_words * 0 + j ≡ j = omega arith in
        rw (← was, ← now) (rw place at (c.row_given j (omega (arith, all))))

    others : (i : ℕ) → (i / row_words ≡ row → ⊥) → get_or u i 0 ≡ get_or t i 0
    others i ne = go (dec_lt i first)
      where
        go : Dec (i < first) → get_or u i 0 ≡ get_or t i 0
        go (yes h) = get_or_append_left (take first t) (ws ++ rest) 0 i (omega (arith, head)) ∙ get_or-take first t i 0 (omega arith)
        go (no h) =
            let past : first + row_words ≤ i = omega (arith, ne, h) in
            behind i (omega arith) ∙ get_or-append_right ws rest row_words (i - first) 0 long (omega arith) ∙ get_or-drop n (drop first t) (i - first - row_words) 0
            ∙ get_or-drop first t (n + (i - first - row_words)) 0 ∙ ap (λ x. get_or t x 0) (omega (arith, e))

-- the row has the columns f, where each of its words has them
pub changed_to : {given : ℕ → ℕ → ℕ → Type 0} {t u : List ℕ} {row : ℕ} {f : ℕ → ℕ} → RowChanged given t u row
    → ((k w v : ℕ) → k < row_words → WordOf (bit_at t row) k w → given k w v → WordOf f k v) → Replaced t u row f
changed_to {given} {t} {u} {row} {f} r words = record {
  here = λ c h. sym (in_word u (row_words * row + c / 64) row c refl) ∙ (now (c / 64) (omega arith)).columns c refl;
  other = λ n c h ne. same_word t u n c (r.others (row_words * n + c / 64) (λ e. ne (omega arith)));
  words = r.others;
}
  where
    now : (k : ℕ) → k < row_words → WordOf f k (get_or u (row_words * row + k) 0)
    now k h = words k _ _ h (word_is t row refl) (r.row_given k h)

-- ---- a column of a row

column_here : (col k : ℕ) → col / 64 ≡ k → WordOf (column col) k (1 * 2 ^ (col % 64) % 2 ^ 64)
column_here col k e = record { columns = λ c h. go c h (ℕ_discrete c col) }
  where
    go : (c : ℕ) → c / 64 ≡ k → Dec (c ≡ col) → bit (1 * 2 ^ (col % 64) % 2 ^ 64) (c % 64) ≡ column col c
    go c h (yes z) = rw (z, eq-eqb col col refl) (one_here (col % 64) (omega arith))
    go c h (no n) = rw (ne_eqb c col n) (one_other (col % 64) (c % 64) (omega arith) (λ q. n (omega arith)))

column_elsewhere : (col k : ℕ) → (col / 64 ≡ k → ⊥) → WordOf (column col) k 0
column_elsewhere col k n = record { columns = λ c h. bit_zero (c % 64) ∙ sym (rw (ne_eqb c col (λ e. n (omega arith)))) }

pub column_word : (col k : ℕ) → WordOf (column col) k (cond (eqb (col / 64) k) (1 * 2 ^ (col % 64) % 2 ^ 64) 0)
column_word col k = go (ℕ_discrete (col / 64) k)
  where
    go : Dec (col / 64 ≡ k) → WordOf (column col) k (cond (eqb (col / 64) k) (1 * 2 ^ (col % 64) % 2 ^ 64) 0)
    go (yes e) = rw (eq-eqb (col / 64) k e) (column_here col k e)
    go (no n) = rw (ne_eqb (col / 64) k n) (column_elsewhere col k n)

column_added : (t u : List ℕ) (row col : ℕ) → col < row_bits → Replaced t u row (union (bit_at t row) (column col)) → Marked t u row col
column_added t u row col h w = record { here = here; other = λ r c i ne. other r c i ne (ℕ_discrete r row) }
  where
    here : bit_at u row col ≡ 1
    here =
        let e : column col col ≡ 1 = rw (eq-eqb col col refl) in
        omega (arith, w.here col h, bit_at_lt t row col)

    other : (r c : ℕ) → c < row_bits → ((r ≡ row) × (c ≡ col) → ⊥) → Dec (r ≡ row) → bit_at u r c ≡ bit_at t r c
    other r c i ne (no n) = w.other r c i n
    other r c i ne (yes z) =
        let e : column col c ≡ 0 = rw (ne_eqb c col (λ d. ne (z, d))) in
        let f : bit_at u row c ≡ bit_at t row c = omega (arith, w.here c i) in
        rw z f

-- a row with the columns of one that has a column alone
pub alone_added : (t u m : List ℕ) (row col : ℕ) → col < row_bits → Alone col m → Replaced t u row (union (bit_at t row) (bit_at m 0)) → Marked t u row col
alone_added t u m row col h a w = column_added t u row col h (record { here = λ c i. w.here c i ∙ ap (λ (x : ℕ). max (bit_at t row c) x) (a.is c i); other = w.other; words = w.words })
