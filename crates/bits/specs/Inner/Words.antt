-- No part of the statement: the last bit of one word, and the words of a row.
use Rattle.std.specs.Prelude.{◌≡◌, ℕ, List, Option, ◌+◌, ◌-◌, ◌*◌, ◌/◌, ◌%◌, ◌≤◌, ◌<◌, get_or}
use Rattle.bits.specs.Table.{row_words, bit}
use Rattle.bits.specs.Last.{Last}

-- n - 1 is the last bit of the word w, or w has none and n is 0
pub record BitLength (w n : ℕ) : Type 0 where
  pub in_word : n ≤ 64
  pub here : 0 < n → bit w (n - 1) ≡ 1
  pub after : (j : ℕ) → n ≤ j → j < 64 → bit w j ≡ 0

-- w has the columns f of the word k
pub record WordOf (f : ℕ → ℕ) (k w : ℕ) : Type 0 where
  pub columns : (c : ℕ) → c / 64 ≡ k → bit w (c % 64) ≡ f c

-- u is t with each word of the row as `given` says, of its place in the row and the word that t has there, and every other word as it was
pub record RowChanged (given : ℕ → ℕ → ℕ → Type 0) (t u : List ℕ) (row : ℕ) : Type 0 where
  pub row_given : (k : ℕ) → k < row_words → given k (get_or t (row_words * row + k) 0) (get_or u (row_words * row + k) 0)
  pub others : (i : ℕ) → (i / row_words ≡ row → ⊥) → get_or u i 0 ≡ get_or t i 0

-- what a search for the last column of the row whose words are `given` finds, whatever columns f those are
pub record LastOfWords (given : ℕ → ℕ → Type 0) (found : Option ℕ) : Type 0 where
  pub last : (f : ℕ → ℕ) → ((k w : ℕ) → k < row_words → given k w → WordOf f k w) → Last f found
