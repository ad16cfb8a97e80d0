-- A row of bits as the set of the values that a walk has met so far.
use Prim.Native.Nat.{ℕ, ◌+◌, ◌<◌}
use native.Mathlib.Nat.{not-suc-le-zero}
use native.Mathlib.Omega.{arith}
use native.Mathlib.Decide.{ℕ_discrete}
use native.Mathlib.Numerals.{add-one}
use mathlib.Core.Path.{◌≡◌, sym, ap, ◌∙◌}
use mathlib.Core.Logic.{◌⊎◌, inl, inr}
use mathlib.Core.List.{List}
use lib.ListN.{replicate}
use Rattle.theory.proofs.Finite.{below_suc}
use Rattle.bits.specs.Table.{row_bits, bit_at, Marked}
use Rattle.bits.proofs.Store.{zeros_bit}
use Rattle.dependence.proofs.Counting.{clash}

-- x is one of the first n values
pub record Met (v : ℕ → ℕ) (n x : ℕ) : Type 0 where
  pub index : ℕ
  pub below : index < n
  pub value : v index ≡ x

-- the row has the first n values and no others
pub record Collected (row : List ℕ) (v : ℕ → ℕ) (n : ℕ) : Type 0 where
  pub sound : (x : ℕ) → x < row_bits → bit_at row 0 x ≡ 1 → Met v n x
  pub complete : (k : ℕ) → k < n → bit_at row 0 (v k) ≡ 1

met_more : {v : ℕ → ℕ} {n x : ℕ} → Met v n x → Met v (n + 1) x
met_more m = record { index = m.index; below = omega (arith, m.below); value = m.value }

pub collected_none : (words : ℕ) (v : ℕ → ℕ) → Collected (replicate words 0) v 0
collected_none words v = record { sound = λ x i e. absurd (clash (zeros_bit words 0 x) e); complete = λ k i. absurd (not-suc-le-zero i) }

module _ (row : List ℕ) (v : ℕ → ℕ) (n : ℕ) (s : Collected row v n) where
  -- the next value was met before
  pub collected_again : bit_at row 0 (v n) ≡ 1 → Collected row v (n + 1)
  collected_again e = record { sound = λ x i b. met_more (s.sound x i b); complete = λ k i. go k (below_suc (rw (← add-one n) i)) }
    where
      go : (k : ℕ) → (k ≡ n) ⊎ (k < n) → bit_at row 0 (v k) ≡ 1
      go k (inl q) = rw q e
      go k (inr i) = s.complete k i

  -- the next value is added
  pub collected_more : (row' : List ℕ) → ((k : ℕ) → k < n → v k < row_bits) → Marked row row' 0 (v n) → Collected row' v (n + 1)
  collected_more row' small m = record { sound = λ x i b. from x i b (ℕ_discrete x (v n)); complete = λ k i. go k (ℕ_discrete (v k) (v n)) (below_suc (rw (← add-one n) i)) }
    where
      from : (x : ℕ) → x < row_bits → bit_at row' 0 x ≡ 1 → Dec (x ≡ v n) → Met v (n + 1) x
      from x i b (yes e) = record { index = n; below = omega arith; value = sym e }
      from x i b (no ne) = met_more (s.sound x i (sym (m.other 0 x i (λ t. ne t.1)) ∙ b))

      go : (k : ℕ) → Dec (v k ≡ v n) → (k ≡ n) ⊎ (k < n) → bit_at row' 0 (v k) ≡ 1
      go k (yes e) c = rw e m.here
      go k (no ne) (inl q) = absurd (ne (ap v q))
      go k (no ne) (inr i) = m.other 0 (v k) (small k i) (λ t. ne t.1) ∙ s.complete k i
