-- Runs connected by joins: one name for each component, its smallest run, found by adding one join after another.
use Prim.Native.Nat.{ℕ, ◌≤◌}
use native.Mathlib.Nat.{le_antisymm}
use native.Mathlib.Omega.{arith}
use mathlib.Core.Path.{◌≡◌, refl, sym, ap, ◌∙◌}
use mathlib.Core.Logic.{◌⊎◌, inl, inr, ◌↔◌}
use mathlib.Core.Bool.{cond}
use lib.Dec.{eqb}
use borrow.Author.Tests.{eq-eqb}
use Rattle.theory.specs.Components.{Connected, itself, joined, SmallestOf}
use Rattle.theory.proofs.Places.{Compared, eq_cases}

module _ (J : ℕ → ℕ → Type 0) where
  pub connected_trans : {r s t : ℕ} → Connected J r s → Connected J s t → Connected J r t
  connected_trans l itself = l
  connected_trans l (joined m j) = joined (connected_trans l m) j

  pub smallest_unique : {r m n : ℕ} → SmallestOf J r m → SmallestOf J r n → m ≡ n
  smallest_unique a b = le_antisymm (a.least _ b.connected) (b.least _ a.connected)

  -- the smallest run of r's component is r or smaller: a declared one if r is
  pub smallest_le : {r m : ℕ} → SmallestOf J r m → m ≤ r
  smallest_le {r} a = a.least r itself

  -- f names runs by smaller connected runs, and gives one name to both runs of each join of E
  pub record Names (E : ℕ → ℕ → Type 0) (f : ℕ → ℕ) : Type 0 where
    pub low : (r : ℕ) → f r ≤ r
    pub connected : (r : ℕ) → Connected J r (f r)
    pub one : (r s : ℕ) → E r s → f r ≡ f s

  names_along : {f : ℕ → ℕ} → Names J f → {r k : ℕ} → Connected J r k → f r ≡ f k
  names_along n itself = refl
  names_along n (joined l j) = names_along n l ∙ n.one _ _ j

  -- with every join in it, they are the components' smallest runs
  pub names_smallest : {f : ℕ → ℕ} → Names J f → (r : ℕ) → SmallestOf J r (f r)
  names_smallest n r = record { connected = n.connected r; least = λ k l. omega (arith, names_along n l, n.low k) }

  -- what is connected by joins is connected by others, if each of the former is one of these or leads from a run to itself
  pub connected_by : (K : ℕ → ℕ → Type 0) → ((r s : ℕ) → J r s → (r ≡ s) ⊎ K r s) → {r s : ℕ} → Connected J r s → Connected K r s
  connected_by K f itself = itself
  connected_by K f (joined {s} {t} l j) = go (f s t j) (connected_by K f l)
    where
      go : {r : ℕ} → (s ≡ t) ⊎ K s t → Connected K r s → Connected K r t
      go (inl e) m = rw e at m
      go (inr k) m = joined m k

  -- a run that is joined to none is alone
  pub connected_alone : {r k : ℕ} → ((s : ℕ) → ¬ J r s) → Connected J r k → k ≡ r
  connected_alone n itself = refl
  connected_alone n (joined l j) = absurd (n _ (rw (connected_alone n l) at j))

  module _ (symmetric : (r s : ℕ) → J r s → J s r) where
    pub connected_sym : {r s : ℕ} → Connected J r s → Connected J s r
    connected_sym itself = itself
    connected_sym (joined l j) = connected_trans (joined itself (symmetric _ _ j)) (connected_sym l)

    -- two runs are connected exactly when their components have one name
    pub connected_smallest : {r s m n : ℕ} → SmallestOf J r m → SmallestOf J s n → Connected J r s ↔ (m ≡ n)
    connected_smallest {r} {s} {m} {n} a b = (
      λ l. le_antisymm (a.least n (connected_trans l b.connected)) (b.least m (connected_trans (connected_sym l) a.connected)),
      λ e. connected_trans (rw e at a.connected) (connected_sym b.connected),
    )

    -- ---- names for the components, found by adding one join after another

    -- hi's component joins lo's
    module _ (E : ℕ → ℕ → Type 0) (f : ℕ → ℕ) (n : Names E f) (a b : ℕ) (l : Connected J a b) (le : f a ≤ f b) where
      abbrev pub merged : ℕ → ℕ
      merged r = cond (eqb (f r) (f b)) (f a) (f r)

      pub merge : Names (λ r s. E r s ⊎ ((r ≡ a) × (s ≡ b))) merged
      merge = record { low = λ r. lo r (eq_cases (f r) (f b)); connected = λ r. li r (eq_cases (f r) (f b)); one = on }
        where
          lo : (r : ℕ) → Compared (f r) (f b) → merged r ≤ r
          lo r (inl c) = rw c.0 (omega (arith, c.1, n.low r))
          lo r (inr c) = rw c.0 (n.low r)

          li : (r : ℕ) → Compared (f r) (f b) → Connected J r (merged r)
          li r (inl c) = rw c.0 (connected_trans (n.connected r) (rw c.1 (connected_trans (connected_sym (n.connected b)) (connected_trans (connected_sym l) (n.connected a)))))
          li r (inr c) = rw c.0 (n.connected r)

          first : Compared (f a) (f b) → merged a ≡ f a
          first (inl c) = rw c.0
          first (inr c) = rw c.0

          on : (r s : ℕ) → E r s ⊎ ((r ≡ a) × (s ≡ b)) → merged r ≡ merged s
          on r s (inl e) = rw (n.one r s e)
          on r s (inr e) = ap merged e.0 ∙ first (eq_cases (f a) (f b)) ∙ sym (rw (eq-eqb (f b) (f b) refl)) ∙ ap merged (sym e.1)
