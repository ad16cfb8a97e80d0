-- The first column of a set.
use Rattle.std.specs.Prelude.{◌≡◌, ℕ, ◌<◌, Option, Some, None}
use Rattle.bits.specs.Table.{row_bits}

-- c is the first column of f
pub record FirstAt (f : ℕ → ℕ) (c : ℕ) : Type 0 where
  pub in_row : c < row_bits
  pub here : f c ≡ 1
  pub before : (j : ℕ) → j < c → f j ≡ 0

-- f has no column
pub record NoColumn (f : ℕ → ℕ) : Type 0 where
  pub none : (j : ℕ) → j < row_bits → f j ≡ 0

-- what a search of f for its first column finds
abbrev pub First : (ℕ → ℕ) → Option ℕ → Type 0
First f (Some c) = FirstAt f c
First f None = NoColumn f
