-- The first place of a run that is left, not taken yet, is that of its next step.
use Rattle.std.specs.Prelude.{Option, Some, None, MatchOption, ◌≢◌}
use Prim.Native.Nat.{ℕ, ◌≤◌, ◌<◌, zero-le}
use native.Mathlib.Omega.{arith}
use mathlib.Core.Path.{◌≡◌, subst}
use mathlib.Core.List.{List}
use lib.ListN.{length, get_or}
use Rattle.bits.specs.Table.{bit_at}
use Rattle.bits.proofs.Store.{bit_at_lt}
use Rattle.evidence.specs.Inner.Tables.{NextAt, NoNext, NextStep}

-- the place p, if it is one of run r, is taken
abbrev pub NotLeft : List ℕ → List ℕ → ℕ → ℕ → Type 0
NotLeft history taken r p = get_or history p 0 ≡ r → bit_at taken 0 p ≡ 1

-- p is a place of run r that is not taken
abbrev pub Left : List ℕ → List ℕ → ℕ → ℕ → Type 0
Left history taken r p = (get_or history p 0 ≡ r) × (bit_at taken 0 p ≢ 1)

pub next_first : (history taken : List ℕ) (r : ℕ) (f : Option ℕ)
    → MatchOption f ((k : ℕ) → 0 ≤ k → k < length history → NotLeft history taken r k)
    (λ p. (0 ≤ p) × (p < length history) × Left history taken r p × ((k : ℕ) → 0 ≤ k → k < p → NotLeft history taken r k)) → NextStep history taken r f
next_first history taken r (Some p) f = record {
  inside = f.1;
  runs = f.2.0;
  untaken = omega (arith, bit_at_lt taken 0 p, f.2.1);
  first = λ k. f.3 k zero-le;
}
next_first history taken r None f = record { all = λ k. f k zero-le }

module _ (history taken : List ℕ) (r : ℕ) (f : Option ℕ) (w : NextStep history taken r f) where
  pub next_at : (p : ℕ) → f ≡ Some p → NextAt history taken r p
  next_at p e = subst (NextStep history taken r) e w

  pub nothing_left : f ≡ None → NoNext history taken r
  nothing_left e = subst (NextStep history taken r) e w
