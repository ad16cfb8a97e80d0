-- The last column of a set.
use Rattle.std.specs.Prelude.{◌≡◌, ℕ, ◌<◌, Option, Some, None}
use Rattle.bits.specs.Table.{row_bits}
use Rattle.bits.specs.First.{NoColumn}

-- c is the last column of f
pub record LastAt (f : ℕ → ℕ) (c : ℕ) : Type 0 where
  pub in_row : c < row_bits
  pub here : f c ≡ 1
  pub after : (j : ℕ) → c < j → j < row_bits → f j ≡ 0

-- what a search of f for its last column finds
abbrev pub Last : (ℕ → ℕ) → Option ℕ → Type 0
Last f (Some c) = LastAt f c
Last f None = NoColumn f
