-- What a function that puts bytes leaves in the buffer that it was lent.
use Rattle.std.specs.Prelude.{ℕ, ◌≡◌, List, ◌++◌, length, drop}

-- the buffer begins with the bytes bs, what lies behind them is as before, and r is how many they are
pub record Put (bs before after : List ℕ) (r : ℕ) : Type 0 where
  pub bytes : after ≡ bs ++ drop (length bs) before
  pub count : r ≡ length bs
