-- The verdicts of a book's islands, one after another; with that of the whole they are as `claims` says.
use Prim.Native.Nat.{ℕ, ◌+◌, ◌≤◌, ◌<◌}
use native.Mathlib.Numerals.{add-one}
use native.Mathlib.Omega.{arith}
use mathlib.Core.Path.{◌≡◌, ◌∙◌}
use mathlib.Core.Logic.{◌⊎◌, inl, inr}
use mathlib.Core.List.{List}
use mir.Val.{Fits}
use mir.Syntax.{w8}
use lib.ListN.{length, get_or, set, length-set}
use lib.Seq.{get_or-set_same, get_or-set_other}
use Rattle.theory.proofs.Finite.{below_suc}
use Rattle.book.specs.Format.{run_limit, step_limit}
use Rattle.capi.specs.Calls.{JudgeCall, IslandsCall}
use Rattle.capi.specs.declared.Judged.{Judged}
use Rattle.capi.specs.declared.ListedIslands.{ListedIslands}
use Rattle.claims.specs.Classes.{DeckJudgeAnswered}
use Rattle.claims.specs.Islands.{DeckIslandAnswered}
use Rattle.claims.proofs.Islands.{island_claims, few_islands, says_by_verdict, deck_by_answers}
use Rattle.demands.specs.Results.{VerdictOf, VerdictsOf, WholeByIslands}

-- those of the first k islands of the list
pub record VerdictsBelow (s list verdicts : List ℕ) (k : ℕ) : Type 0 where
  pub long : length verdicts ≡ run_limit
  pub each : (i : ℕ) → i < k → VerdictOf s (get_or list i 0) (get_or verdicts i 0)

pub verdicts_more : (s list v : List ℕ) (k : ℕ) → VerdictsBelow s list v k → k < run_limit → (j : Judged) → DeckIslandAnswered s (get_or list k 0) j
    → VerdictsBelow s list (set v k j.verdict) (k + 1)
verdicts_more s list v k w h j a = record { long = length-set v k j.verdict ∙ w.long; each = λ i l. at i (below_suc (rw (add-one k) at l)) }
  where
    at : (i : ℕ) → (i ≡ k) ⊎ (i < k) → VerdictOf s (get_or list i 0) (get_or (set v k j.verdict) i 0)
    at i (inl z) = rw z (record { judged = j; answered = a; is = get_or-set_same v k j.verdict 0 (omega (arith, w.long)) })
    at i (inr l) = rw (get_or-set_other v k i j.verdict 0 (λ z. omega arith)) (w.each i l)

pub whole_by_islands : (s order order' cycle cycle' : List ℕ) → ((i : ℕ) → Fits w8 (get_or s i 0)) → (j : Judged) → step_limit ≤ length order → step_limit ≤ length cycle
    → JudgeCall s order order' cycle cycle' j → (r : ListedIslands) → IslandsCall s r → (v : List ℕ) → VerdictsOf s r.list r.count v
    → WholeByIslands s (record { judged = j; islands = r; verdicts = v })
whole_by_islands s order order' cycle cycle' fits j a b w r l v vs = record {
  partition = λ c e. island_claims.deck_partition s c e r l;
  whole = λ c e. deck_by_answers s c bytes e j answered r l (λ i. get_or v i 0 ≡ 1) (λ i h. let x = vs.each i (omega (arith, few_islands s c bytes e r l)) h in record {
    judged = x.judged;
    answered = x.answered;
    same = says_by_verdict s (get_or r.list i 0) (get_or v i 0) x.judged x.answered x.is;
  });
}
  where
    bytes : (i : ℕ) → get_or s i 0 < 256
    bytes i = omega (arith, fits i)

    answered : DeckJudgeAnswered s j
    answered = record { order = order; order' = order'; cycle = cycle; cycle' = cycle'; order_long = a; cycle_long = b; promise = w }
