-- The columns of a row that is joined with others, or kept within them.
use Prim.Native.Nat.{ℕ, ◌<◌, max}
use native.Mathlib.Decide.{ℕ_discrete}
use native.Mathlib.Omega.{arith}
use mathlib.Core.Path.{◌≡◌, sym, ◌∙◌}
use mathlib.Core.Logic.{◌⊎◌, inl, inr}
use mathlib.Core.List.{List}
use Rattle.bits.specs.Table.{row_bits, bit_at, union, intersection, Replaced}
use Rattle.bits.proofs.Store.{bit_at_lt}

pub either_one : (a b : ℕ) → a < 2 → b < 2 → max a b ≡ 1 → (a ≡ 1) ⊎ (b ≡ 1)
either_one a b la lb e = go (ℕ_discrete a 1)
  where
    go : Dec (a ≡ 1) → (a ≡ 1) ⊎ (b ≡ 1)
    go (yes y) = inl y
    go (no n) = inr (omega arith)

module _ (m u : List ℕ) (f : ℕ → ℕ) (f_lt : (c : ℕ) → f c < 2) where
  pub added_from : Replaced m u 0 (union (bit_at m 0) f) → (p : ℕ) → p < row_bits → bit_at u 0 p ≡ 1 → (bit_at m 0 p ≡ 1) ⊎ (f p ≡ 1)
  added_from w p h e = either_one (bit_at m 0 p) (f p) (bit_at_lt m 0 p) (f_lt p) (sym (w.here p h) ∙ e)

  pub added : Replaced m u 0 (union (bit_at m 0) f) → (p : ℕ) → p < row_bits → (bit_at m 0 p ≡ 1) ⊎ (f p ≡ 1) → bit_at u 0 p ≡ 1
  added w p h (inl e) = omega (arith, w.here p h, f_lt p, e)
  added w p h (inr e) = omega (arith, w.here p h, bit_at_lt m 0 p, e)

  pub kept_from : Replaced m u 0 (intersection (bit_at m 0) f) → (p : ℕ) → p < row_bits → bit_at u 0 p ≡ 1 → (bit_at m 0 p ≡ 1) × (f p ≡ 1)
  kept_from w p h e = (omega (arith, w.here p h, bit_at_lt m 0 p, f_lt p, e), omega (arith, w.here p h, bit_at_lt m 0 p, f_lt p, e))

  pub kept : Replaced m u 0 (intersection (bit_at m 0) f) → (p : ℕ) → p < row_bits → bit_at m 0 p ≡ 1 → f p ≡ 1 → bit_at u 0 p ≡ 1
  kept w p h a b = omega (arith, w.here p h, a, b)
