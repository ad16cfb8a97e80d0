-- The test of a listed pair by the flags of the pairs.
use Prim.Native.Nat.{ℕ, suc, ◌+◌, ◌*◌, ◌/◌, ◌%◌, ◌<◌}
use native.Mathlib.Omega.{arith}
use mathlib.Core.Path.{◌≡◌, refl, ◌∙◌}
use mathlib.Core.Logic.{inl, inr}
use mathlib.Core.Bool.{Bool, true, false, ◌&&◌, ◌||◌, not}
use mathlib.Core.List.{List, [], ◌∷◌, map}
use lib.ListN.{get_or}
use lib.Dec.{eqb}
use borrow.Author.Tests.{eq-eqb, ne_eqb}
use Rattle.book.specs.Format.{kind_limit}
use Rattle.book.specs.Book.{flagged, pair_of, pairs_of}
use Rattle.book.proofs.Groups.{count_flagged}
use Rattle.theory.specs.History.{suc_if, count}
use Rattle.theory.specs.Deck.{listed}
use Rattle.theory.proofs.Places.{Compared, eq_cases}

-- ---- the test of a listed pair

pair_code : (x a b : ℕ) → b < kind_limit → (eqb (x / kind_limit) a && eqb (x % kind_limit) b) ≡ eqb x (a * kind_limit + b)
pair_code x a b h = go (eq_cases (x / kind_limit) a) (eq_cases (x % kind_limit) b)
  where
    go : Compared (x / kind_limit) a → Compared (x % kind_limit) b → (eqb (x / kind_limit) a && eqb (x % kind_limit) b) ≡ eqb x (a * kind_limit + b)
    go (inl c) (inl d) = rw (c.0, d.0, eq-eqb x (a * kind_limit + b) (omega (arith, c.1, d.1)))
    go (inl c) (inr d) = rw (c.0, d.0, ne_eqb x (a * kind_limit + b) (λ e. d.1 (omega arith)))
    go (inr c) d = rw (c.0, ne_eqb x (a * kind_limit + b) (λ e. c.1 (omega arith)))

or_true : (b : Bool) → true ≡ (b || true)
or_true true = refl
or_true false = refl

-- the pair stands in the list one way round or the other
listed_count : (l : List ℕ) (a b : ℕ) → a < kind_limit → b < kind_limit
    → listed (map pair_of l) a b ≡ (not (eqb (count l (a * kind_limit + b)) 0) || not (eqb (count l (b * kind_limit + a)) 0))
listed_count [] a b ha hb = refl
listed_count (x ∷ l) a b ha hb =
    rw (pair_code x a b hb, pair_code x b a ha, listed_count l a b ha hb)
    (go (eqb x (a * kind_limit + b)) (eqb x (b * kind_limit + a)) (count l (a * kind_limit + b)) (count l (b * kind_limit + a)))
  where
    go : (u v : Bool) (m n : ℕ) → ((u || v) || (not (eqb m 0) || not (eqb n 0))) ≡ (not (eqb (suc_if u m) 0) || not (eqb (suc_if v n) 0))
    go true v m n = rw (ne_eqb (suc m) 0 (λ e. omega arith))
    go false true m n = rw (ne_eqb (suc n) 0 (λ e. omega arith)) (or_true (not (eqb m 0)))
    go false false m n = refl

once : (b : Bool) → not (eqb (suc_if b 0) 0) ≡ b
once true = refl
once false = refl

either_flag : (x y : ℕ) → not (eqb (x + y) 0) ≡ (not (eqb x 0) || not (eqb y 0))
either_flag x y = go (eq_cases x 0) (eq_cases y 0)
  where
    go : Compared x 0 → Compared y 0 → not (eqb (x + y) 0) ≡ (not (eqb x 0) || not (eqb y 0))
    go (inl c) (inl d) = rw (c.0, d.0, eq-eqb (x + y) 0 (omega (arith, c.1, d.1)))
    go (inl c) (inr d) = rw (c.0, d.0, ne_eqb (x + y) 0 (λ e. d.1 (omega arith)))
    go (inr c) d = rw (c.0, ne_eqb (x + y) 0 (λ e. c.1 (omega arith)))

module _ (t : List ℕ) (a b : ℕ) (ha : a < kind_limit) (hb : b < kind_limit) where
  listed_flags : listed (pairs_of t) a b ≡ (not (eqb (get_or t (a * kind_limit + b) 0) 0) || not (eqb (get_or t (b * kind_limit + a) 0) 0))
  listed_flags =
      listed_count (flagged 0 t) a b ha hb
      ∙ rw (count_flagged t (a * kind_limit + b), count_flagged t (b * kind_limit + a), once (not (eqb (get_or t (a * kind_limit + b) 0) 0)), once (not (eqb (get_or t (b * kind_limit + a) 0) 0)))

  -- both flags at once: their sum is 0 where both are
  pub listed_sum : (x y : ℕ) → x ≡ get_or t (a * kind_limit + b) 0 → y ≡ get_or t (b * kind_limit + a) 0 → not (eqb (x + y) 0) ≡ listed (pairs_of t) a b
  listed_sum x y e f = either_flag x y ∙ rw (listed_flags, ← e, ← f)
