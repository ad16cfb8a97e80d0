-- What a search of the pairs of places below a bound finds: no pair that has the property, or one.
use Prim.Native.Nat.{ℕ, ◌<◌}

-- no two places b before c below n have the property
pub record NonePair (P : ℕ → ℕ → Type 0) (n : ℕ) : Type 0 where
  pub none : (c : ℕ) → c < n → (b : ℕ) → b < c → ¬ P b c

-- these two have it
pub record SomePair (P : ℕ → ℕ → Type 0) (n : ℕ) : Type 0 where
  pub c : ℕ
  pub inside : c < n
  pub b : ℕ
  pub before : b < c
  pub holds : P b c
