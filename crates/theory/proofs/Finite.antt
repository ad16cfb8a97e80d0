-- Search below a bound, and decisions put together from decisions.
use Prim.Native.Nat.{ℕ, zero, suc, ◌≤◌, ◌<◌}
use native.Mathlib.Nat.{not-suc-le-zero, lt-suc_self}
use native.Mathlib.Decide.{ℕ_discrete}
use native.Mathlib.Omega.{arith}
use mathlib.Core.Path.{◌≡◌, refl}
use mathlib.Core.Logic.{◌⊎◌, inl, inr}
use mathlib.Core.Bool.{Bool, true, false}
use mathlib.Core.HLevel.{dec→stable}
use lib.Dec.{T}

-- k below suc m is m or below m
pub below_suc : {k m : ℕ} → k < suc m → (k ≡ m) ⊎ (k < m)
below_suc {k} {m} h = go (ℕ_discrete k m)
  where
    go : Dec (k ≡ m) → (k ≡ m) ⊎ (k < m)
    go (yes e) = inl e
    go (no n) = inr (omega arith)

module _ (P : ℕ → Type 0) where
  pub record Least (n f : ℕ) : Type 0 where
    pub below : f < n
    pub holds : P f
    pub least : (k : ℕ) → k < n → P k → f ≤ k

  pub record Greatest (n f : ℕ) : Type 0 where
    pub below : f < n
    pub holds : P f
    pub greatest : (k : ℕ) → k < n → P k → k ≤ f

  abbrev pub None : ℕ → Type 0
  None n = (k : ℕ) → k < n → ¬ P k

  module _ (dec : (k : ℕ) → Dec (P k)) where
    unfoldable pub least : (n : ℕ) → ((f : ℕ) × Least n f) ⊎ None n
    least zero = inr (λ k h p. not-suc-le-zero h)
    least (suc m) = go (dec m) (least m)
      where
        go : Dec (P m) → ((f : ℕ) × Least m f) ⊎ None m → ((f : ℕ) × Least (suc m) f) ⊎ None (suc m)
        go d (inl t) = inl (t.0, record { below = omega (arith, t.1.below); holds = t.1.holds; least = λ k h p. ⊎-step k h p (below_suc h) })
          where
            ⊎-step : (k : ℕ) → k < suc m → P k → (k ≡ m) ⊎ (k < m) → t.0 ≤ k
            ⊎-step k h p (inl e) = omega (arith, t.1.below)
            ⊎-step k h p (inr l) = t.1.least k l p
        go (yes p) (inr n) = inl (m, record { below = lt-suc_self m; holds = p; least = λ k h q. up k q (below_suc h) })
          where
            up : (k : ℕ) → P k → (k ≡ m) ⊎ (k < m) → m ≤ k
            up k q (inl e) = omega arith
            up k q (inr l) = absurd (n k l q)
        go (no np) (inr n) = inr (λ k h q. up k q (below_suc h))
          where
            up : (k : ℕ) → P k → (k ≡ m) ⊎ (k < m) → ⊥
            up k q (inl e) = np (rw e at q)
            up k q (inr l) = n k l q

    unfoldable pub greatest : (n : ℕ) → ((f : ℕ) × Greatest n f) ⊎ None n
    greatest zero = inr (λ k h p. not-suc-le-zero h)
    greatest (suc m) = go (dec m) (greatest m)
      where
        go : Dec (P m) → ((f : ℕ) × Greatest m f) ⊎ None m → ((f : ℕ) × Greatest (suc m) f) ⊎ None (suc m)
        go (yes p) r = inl (m, record { below = lt-suc_self m; holds = p; greatest = λ k h q. omega arith })
        go (no np) (inl t) = inl (t.0, record { below = omega (arith, t.1.below); holds = t.1.holds; greatest = λ k h p. up k p (below_suc h) })
          where
            up : (k : ℕ) → P k → (k ≡ m) ⊎ (k < m) → k ≤ t.0
            up k q (inl e) = absurd (np (rw e at q))
            up k q (inr l) = t.1.greatest k l q
        go (no np) (inr n) = inr (λ k h q. up k q (below_suc h))
          where
            up : (k : ℕ) → P k → (k ≡ m) ⊎ (k < m) → ⊥
            up k q (inl e) = np (rw e at q)
            up k q (inr l) = n k l q

    -- decided: some k below n, or none
    unfoldable pub some_below : (n : ℕ) → Dec ((k : ℕ) × (k < n) × P k)
    some_below n = go (least n)
      where
        go : ((f : ℕ) × Least n f) ⊎ None n → Dec ((k : ℕ) × (k < n) × P k)
        go (inl t) = yes (t.0, t.1.below, t.1.holds)
        go (inr u) = no (λ t. u t.0 t.1 t.2)

    pub least_of : (n k : ℕ) → k < n → P k → (f : ℕ) × Least n f
    least_of n k h p = go (least n)
      where
        go : ((f : ℕ) × Least n f) ⊎ None n → (f : ℕ) × Least n f
        go (inl t) = t
        go (inr u) = absurd (u k h p)

    pub greatest_of : (n k : ℕ) → k < n → P k → (f : ℕ) × Greatest n f
    greatest_of n k h p = go (greatest n)
      where
        go : ((f : ℕ) × Greatest n f) ⊎ None n → (f : ℕ) × Greatest n f
        go (inl t) = t
        go (inr u) = absurd (u k h p)

unfoldable pub dec_T : (b : Bool) → Dec (T b)
dec_T true = yes tt
dec_T false = no (λ t. t)

unfoldable pub dec_both : {A B : Type 0} → Dec A → Dec B → Dec (A × B)
dec_both (yes a) (yes b) = yes (a, b)
dec_both (yes a) (no n) = no (λ t. n t.1)
dec_both (no n) d = no (λ t. n t.0)

unfoldable pub dec_either : {A B : Type 0} → Dec A → Dec B → Dec (A ⊎ B)
dec_either (yes a) d = yes (inl a)
dec_either (no n) (yes b) = yes (inr b)
dec_either {A} {B} (no n) (no m) = no go
  where
    go : A ⊎ B → ⊥
    go (inl a) = n a
    go (inr b) = m b

unfoldable pub dec_not : {A : Type 0} → Dec A → Dec (¬ A)
dec_not (yes a) = no (λ n. n a)
dec_not (no n) = yes n

unfoldable pub dec_implies : {A B : Type 0} → Dec A → Dec B → Dec (A → B)
dec_implies (yes a) (yes b) = yes (λ _. b)
dec_implies (yes a) (no n) = no (λ f. n (f a))
dec_implies (no n) d = yes (λ a. absurd (n a))

unfoldable pub all_below : (P : ℕ → Type 0) → ((k : ℕ) → Dec (P k)) → (n : ℕ) → Dec ((k : ℕ) → k < n → P k)
all_below P dec n = go (some_below (λ k. ¬ P k) (λ k. dec_not (dec k)) n)
  where
    go : Dec ((k : ℕ) × (k < n) × (¬ P k)) → Dec ((k : ℕ) → k < n → P k)
    go (yes t) = no (λ f. t.2 (f t.0 t.1))
    go (no u) = yes (λ k h. dec→stable (dec k) (λ m. u (k, h, m)))

-- where a decision computes to yes, what it decides holds
abbrev pub is_yes : {A : Type 0} → Dec A → Bool
is_yes (yes a) = true
is_yes (no n) = false

pub by_yes : {A : Type 0} (d : Dec A) → T (is_yes d) → A
by_yes (yes a) t = a
by_yes (no n) t = absurd t

-- two tests that hold together have the same answer
pub bool_iff : (a b : Bool) → (T a → T b) → (T b → T a) → a ≡ b
bool_iff true true f g = refl
bool_iff true false f g = absurd (f tt)
bool_iff false true f g = absurd (g tt)
bool_iff false false f g = refl
