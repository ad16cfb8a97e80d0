-- Tables of bits: their sizes, which bit stands where, and what the calls of `bits` say of them.
use Rattle.std.specs.Prelude.{◌≡◌, Bool, true, cond, List, ℕ, ◌+◌, ◌-◌, ◌*◌, ◌/◌, ◌%◌, ◌^◌, ◌<◌, min, max, get_or, eqb}

-- how many words of 64 bits a row has: the one number that the other sizes follow from
abbrev pub row_words : ℕ
row_words = 2

-- how many columns a row has
abbrev pub row_bits : ℕ
row_bits = 64 * row_words

-- how many rows a table has
abbrev pub rows : ℕ
rows = row_bits

-- how many words a table has
abbrev pub table_words : ℕ
table_words = rows * row_words

-- bit k of the number n, 0 or 1
abbrev pub bit : ℕ → ℕ → ℕ
bit n k = n / 2 ^ k % 2

-- the bit of the table t at a row and a column, 0 or 1. A Row that stands alone is read at row 0
unfoldable pub bit_at : List ℕ → ℕ → ℕ → ℕ
bit_at t row col = bit (get_or t (row_words * row + col / 64) 0) (col % 64)

-- A set of columns is a function that is 1 at its columns and 0 at the others, as `bit_at t row`.
abbrev pub union : (ℕ → ℕ) → (ℕ → ℕ) → ℕ → ℕ
union f g c = max (f c) (g c)

abbrev pub intersection : (ℕ → ℕ) → (ℕ → ℕ) → ℕ → ℕ
intersection f g c = min (f c) (g c)

abbrev pub difference : (ℕ → ℕ) → (ℕ → ℕ) → ℕ → ℕ
difference f g c = min (f c) (1 - g c)

-- this column alone
abbrev pub column : ℕ → ℕ → ℕ
column col c = cond (eqb c col) 1 0

-- m is the row that has this column alone
pub record Alone (col : ℕ) (m : List ℕ) : Type 0 where
  pub is : (c : ℕ) → c < row_bits → bit_at m 0 c ≡ column col c

-- u is t with the bit at (row, col) set and every other bit as it was
pub record Marked (t u : List ℕ) (row col : ℕ) : Type 0 where
  pub here : bit_at u row col ≡ 1
  pub other : (r c : ℕ) → c < row_bits → ((r ≡ row) × (c ≡ col) → ⊥) → bit_at u r c ≡ bit_at t r c

-- u is t with the columns f as its row dst, and every other row as it was, in its bits and in its words
pub record Replaced (t u : List ℕ) (dst : ℕ) (f : ℕ → ℕ) : Type 0 where
  pub here : (c : ℕ) → c < row_bits → bit_at u dst c ≡ f c
  pub other : (r c : ℕ) → c < row_bits → (r ≡ dst → ⊥) → bit_at u r c ≡ bit_at t r c
  pub words : (i : ℕ) → (i / row_words ≡ dst → ⊥) → get_or u i 0 ≡ get_or t i 0

-- m is the row of t, by itself
pub record RowCopied (t : List ℕ) (row : ℕ) (m : List ℕ) : Type 0 where
  pub same : (c : ℕ) → c < row_bits → bit_at m 0 c ≡ bit_at t row c

-- answer says whether every column of f is one of g
pub record Subset (f g : ℕ → ℕ) (answer : Bool) : Type 0 where
  pub sound : answer ≡ true → (c : ℕ) → c < row_bits → f c ≡ 1 → g c ≡ 1
  pub complete : ((c : ℕ) → c < row_bits → f c ≡ 1 → g c ≡ 1) → answer ≡ true
