-- What a table of bits, or a row of it, says of the places of a history.
use Rattle.std.specs.Prelude.{ℕ, ◌<◌, ◌≡◌, List}
use Rattle.bits.specs.Table.{row_bits, rows, bit_at}

-- bit x of row y is set exactly where R x y
pub record Marks (R : ℕ → ℕ → Type 0) (t : List ℕ) : Type 0 where
  pub sound : (x y : ℕ) → x < row_bits → y < rows → bit_at t y x ≡ 1 → R x y
  pub complete : (x y : ℕ) → x < row_bits → y < rows → R x y → bit_at t y x ≡ 1

-- the columns of the row m are exactly where R
pub record Columns (R : ℕ → Type 0) (m : List ℕ) : Type 0 where
  pub sound : (p : ℕ) → p < row_bits → bit_at m 0 p ≡ 1 → R p
  pub complete : (p : ℕ) → p < row_bits → R p → bit_at m 0 p ≡ 1
