-- Pieces of bytes, one after another.
use Rattle.std.specs.Prelude.{ℕ, zero, suc, List, [], ◌++◌}

-- the first n pieces, the i-th being f i
abbrev pub parts : (ℕ → List ℕ) → ℕ → List ℕ
parts f zero = []
parts f (suc n) = parts f n ++ f n
