-- The loops over a table: largest, how many at a limit or above it, sum, how often, and runs taken back beside withdrawn ones and counts.
use Prim.Native.Nat.{ℕ, ◌+◌, ◌*◌, ◌≤◌, ◌<◌}
use mathlib.Core.Path.{◌≡◌, ◌∙◌}
use mathlib.Core.List.{List}
use mathlib.Core.Bool.{false}
use native.Mathlib.Omega.{arith}
use native.Mathlib.Numerals.{add-one}
use lib.ListN.{length, get_or, take}
use Rattle.theory.specs.Lists.{sum}
use Rattle.theory.specs.History.{count}
use Rattle.theory.specs.Answers.{Answers}
use Rattle.theory.proofs.Lists.{sum_take, count_take_lt, count_take_ne}
use Rattle.theory.proofs.Answered.{answer_no}
use Rattle.valid.specs.TakenBack.{TakenBackAgree}

-- ---- largest

-- m is the largest of those from `start` to i
pub record LargestTo (l : List ℕ) (start i m : ℕ) : Type 0 where
  pub begun : start ≤ i
  pub above : (k : ℕ) → k < i → start ≤ k → get_or l k 0 ≤ m
  pub least : (n : ℕ) → ((k : ℕ) → start ≤ k → get_or l k 0 ≤ n) → m ≤ n

-- ---- others_in, set_from

-- n, at most i, is 0 exactly where each from `start` to i is below the limit
pub record CountedTo (l : List ℕ) (limit start i n : ℕ) : Type 0 where
  pub begun : start ≤ i
  pub low : n ≤ i
  pub all : n ≡ 0 → (k : ℕ) → k < i → start ≤ k → get_or l k 0 < limit
  pub none : ((k : ℕ) → start ≤ k → get_or l k 0 < limit) → n ≡ 0

-- ---- sum_of

-- total is the sum of the first i bytes
pub record SumTo (l : List ℕ) (i total : ℕ) : Type 0 where
  pub is : total ≡ sum (take i l)
  pub low : total ≤ 255 * i

module _ (l : List ℕ) where
  pub sum_more : (i total x : ℕ) → SumTo l i total → x ≡ get_or l i 0 → x < 256 → SumTo l (i + 1) (total + x)
  sum_more i total x t e h = record { is = rw (add-one, sum_take l i) (omega (arith, t.is)); low = omega (arith, t.low) }

-- ---- count_of

-- x stands so often in the first i
pub record CountTo (l : List ℕ) (x i found : ℕ) : Type 0 where
  pub is : found ≡ count (take i l) x
  pub low : found ≤ i

module _ (l : List ℕ) (x : ℕ) where
  pub count_other : (i found y : ℕ) → CountTo l x i found → ¬ (get_or l i 0 ≡ x) → y ≡ found → CountTo l x (i + 1) y
  count_other i found y t h e = record { is = rw (add-one i, count_take_ne l x i h) (e ∙ t.is); low = omega (arith, t.low) }

  pub count_one : (i found y : ℕ) → CountTo l x i found → i < length l → get_or l i 0 ≡ x → y ≡ found + 1 → CountTo l x (i + 1) y
  count_one i found y t k h e = record {
    is = rw (add-one i, ← count_take_lt l x i k h) (omega (arith, t.is));
    low = omega (arith, t.low);
  }

-- ---- taken_back_agree

-- the runs below n are tested
pub record AgreeTo (taken shut counts : List ℕ) (n : ℕ) : Type 0 where
  pub withdrawn : (r : ℕ) → r < n → ¬ (get_or taken r 0 ≡ 0) → ¬ (get_or shut r 0 ≡ 0)
  pub none_kept : (r : ℕ) → r < n → ¬ (get_or taken r 0 ≡ 0) → get_or counts r 0 ≡ 0

module _ (taken shut counts : List ℕ) where
  module _ (n : ℕ) (w : AgreeTo taken shut counts n) where
    pub not_withdrawn : ¬ (get_or taken n 0 ≡ 0) → get_or shut n 0 ≡ 0 → Answers (TakenBackAgree taken shut counts) false
    not_withdrawn t z = answer_no (λ v. v.withdrawn n t z)

    pub step_kept_of_it : ¬ (get_or taken n 0 ≡ 0) → ¬ (get_or counts n 0 ≡ 0) → Answers (TakenBackAgree taken shut counts) false
    step_kept_of_it t f = answer_no (λ v. f (v.none_kept n t))
