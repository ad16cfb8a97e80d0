-- Sets of places as rows of bits, the first place that is not in one, and a place that is ready.
use Prim.Native.Nat.{ℕ, ◌≤◌, ◌<◌}
use native.Mathlib.Nat.{not-suc-le-zero}
use Rattle.std.proofs.Common.{Option, Some, None, unwrap_or, MatchOption}
use native.Mathlib.Decide.{ℕ_discrete, dec_lt}
use native.Mathlib.Omega.{arith}
use mathlib.Core.Path.{◌≡◌, sym, ◌∙◌}
use mathlib.Core.Logic.{◌⊎◌, inl, inr, ◌↔◌, ◌≢◌}
use mathlib.Core.Bool.{Bool, true, false, true≢false, not}
use mathlib.Core.List.{List, [], ◌∷◌, ◌++◌}
use lib.ListN.{length, replicate}
use borrow.Author.Tests.{eq-eqb, not-true}
use lib.Dec.{eqb}
use Rattle.theory.specs.History.{run}
use Rattle.theory.specs.Graph.{Taken}
use Rattle.bits.specs.Table.{row_bits, bit_at, Subset, Marked}
use Rattle.bits.proofs.Store.{bit_at_lt, zeros_bit}
use Rattle.theory.specs.Answers.{Answers}
use Rattle.dependence.proofs.Counting.{clash}
use Rattle.turns.specs.Inner.Turns.{InSet, ReadyIn, FirstReady, AllTaken, FirstUntaken, TakenIn}

-- ---- sets of places

pub not_in : (t : List ℕ) (p : ℕ) → ¬ InSet t p → bit_at t 0 p ≡ 0
not_in t p n = omega (arith, n, bit_at_lt t 0 p)

-- what `bits::has` answers where the place is not in the set
pub has_not : (t : List ℕ) (p : ℕ) (b : Bool) → b ≡ eqb (bit_at t 0 p) 1 → b ≡ false → bit_at t 0 p ≡ 0
has_not t p b e h = not_in t p (λ i. true≢false (sym (eq-eqb _ _ i) ∙ sym e ∙ h))

module _ {t u : List ℕ} {p : ℕ} (m : Marked t u 0 p) where
  pub added_other : (q : ℕ) → q < row_bits → q ≢ p → bit_at u 0 q ≡ bit_at t 0 q
  added_other q h n = m.other 0 q h (λ w. n w.1)

  pub added_in : (q : ℕ) → q < row_bits → InSet t q → InSet u q
  added_in q h i = go (ℕ_discrete q p)
    where
      go : Dec (q ≡ p) → InSet u q
      go (yes e) = rw e m.here
      go (no n) = added_other q h n ∙ i

pub none_taken : (h : List ℕ) (words : ℕ) → TakenIn h [] (replicate words 0)
none_taken h words = record { sound = λ p i e. absurd (clash (zeros_bit words 0 p) e); complete = λ p i t. absurd (not-suc-le-zero t) }

-- one more step of l takes the place p and no other
pub taken_added : {h l t u : List ℕ} {p : ℕ} → length h ≤ row_bits → TakenIn h l t → Marked t u 0 p
    → ((q : ℕ) → q < length h → Taken h (l ++ run h p ∷ []) q ↔ (Taken h l q ⊎ (q ≡ p))) → TakenIn h (l ++ run h p ∷ []) u
taken_added {h} {l} {t} {u} {p} small w m turn = record {
  sound = λ q i e. (turn q i).1 (from q i e (ℕ_discrete q p));
  complete = λ q i k. to q i ((turn q i).0 k);
}
  where
    from : (q : ℕ) → q < length h → InSet u q → Dec (q ≡ p) → Taken h l q ⊎ (q ≡ p)
    from q i e (yes z) = inr z
    from q i e (no z) = inl (w.sound q i (sym (added_other m q (omega arith) z) ∙ e))

    to : (q : ℕ) → q < length h → Taken h l q ⊎ (q ≡ p) → InSet u q
    to q i (inr e) = rw e m.here
    to q i (inl k) = added_in m q (omega arith) (w.complete q i k)

-- ---- the first place that is not taken

pub all_none : (t : List ℕ) → AllTaken t 0
all_none t = record { all = λ k l. absurd (not-suc-le-zero l) }

-- what holds below `from` and from there on holds below n
pub below_both : {P : ℕ → Type 0} (from n : ℕ) → ((k : ℕ) → k < from → P k) → ((k : ℕ) → from ≤ k → k < n → P k) → (k : ℕ) → k < n → P k
below_both {P} from n low high k i = go (dec_lt k from)
  where
    go : Dec (k < from) → P k
    go (yes l) = low k l
    go (no l) = high k (omega arith) i

-- what a search from `from` on finds is the first of all, where those below are taken
pub first_untaken : (t : List ℕ) (from n : ℕ) → from ≤ n → AllTaken t from → (r : Option ℕ)
    → MatchOption r ((k : ℕ) → from ≤ k → k < n → InSet t k)
    (λ p. (from ≤ p) × (p < n) × ¬ InSet t p × ((k : ℕ) → from ≤ k → k < p → InSet t k)) → FirstUntaken t n (unwrap_or r n)
first_untaken t from n i a (Some p) f = record { within = omega (arith, f.1); before = record { all = below_both from p a.all f.3 }; here = λ l. not_in t p f.2 }
first_untaken t from n i a None f = record { within = omega arith; before = record { all = below_both from n a.all f }; here = λ l. absurd (omega (arith, l)) }

-- ---- a ready place

pub first_ready : (arc t : List ℕ) (from n : ℕ) → AllTaken t from → (r : Option ℕ)
    → MatchOption r ((k : ℕ) → from ≤ k → k < n → ¬ ReadyIn arc t k)
    (λ p. (from ≤ p) × (p < n) × ReadyIn arc t p × ((k : ℕ) → from ≤ k → k < p → ¬ ReadyIn arc t k)) → FirstReady arc t n r
first_ready arc t from n a (Some p) f = record {
  inside = f.1;
  ready = f.2;
  least = record { none = below_both from p (λ k l q. clash q.untaken (a.all k l)) f.3 };
}
first_ready arc t from n a None f = record { none = below_both from n (λ k l q. clash q.untaken (a.all k l)) f }

pub within_answers : (arc t : List ℕ) (p : ℕ) (b r : Bool) → b ≡ eqb (bit_at t 0 p) 1 → not b ≡ true → Subset (bit_at arc p) (bit_at t 0) r → Answers (ReadyIn arc t p) r
within_answers arc t p b r e h w = record {
  sound = λ q. record { untaken = has_not t p b e (not-true b h); sources = w.sound q };
  complete = λ k. w.complete k.sources;
}
