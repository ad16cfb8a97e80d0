-- A book without cuts is passed exactly when its history is conflict serializable.
use Rattle.std.specs.Prelude.{Ok, Err}
use Prim.Native.Nat.{ℕ, ◌≤◌}
use mathlib.Core.Path.{◌≡◌, refl, ap, subst}
use mathlib.Core.Logic.{◌↔◌}
use mathlib.Core.Bool.{Bool}
use mathlib.Core.List.{List, []}
use native.Mathlib.Omega.{arith}
use lib.ListN.{length}
use Rattle.theory.specs.Relative.{ConflictSerializable, RelativelySerializable}
use Rattle.theory.specs.Deck.{Cut, conflict, unit}
use Rattle.theory.proofs.DeckLaws.{uncut}
use Rattle.book.specs.Format.{Contents, Outcome, accepted, step_limit, read}
use Rattle.book.specs.Meaning.{conflict_of, unit_of}
use Rattle.judge.specs.Judged.{JudgeAnswer, verdict_of, JudgedAs, JudgementAs}
use Rattle.judge.specs.Judge.{OutcomeJudged, BytesJudged}
use Rattle.judge.specs.declared.Verdict.{Verdict}
use Rattle.judge.specs.declared.Verdict.TheVariants.{Passed, Tangled}

-- a history is passed exactly when it is relatively serializable
pub passed_serializable : (conflict : ℕ → ℕ → ℕ → ℕ → Bool) (unit : ℕ → ℕ → ℕ → ℕ) (h order order' cycle cycle' : List ℕ) (v : Verdict) (count : ℕ)
    → JudgedAs conflict unit h order order' cycle cycle' v count
    → (v ≡ Passed) ↔ RelativelySerializable conflict unit h
passed_serializable conflict unit h order order' cycle cycle' Passed count j = (λ e. j.serializable, λ s. refl)
passed_serializable conflict unit h order order' cycle cycle' Tangled count j = (λ e. absurd (other e), λ s. absurd (j.not_serializable s))
  where
    other : Tangled ≡ Passed → ⊥
    other e = let z : ◌≡◌ {A = ℕ} 0 1 = cc in omega arith

-- of an answer of the judge
passed_answer : (conflict : ℕ → ℕ → ℕ → ℕ → Bool) (unit : ℕ → ℕ → ℕ → ℕ) (h order order' cycle cycle' : List ℕ) (r : JudgeAnswer)
    → JudgementAs conflict unit h order order' cycle cycle' r
    → (verdict_of r ≡ Ok Passed) ↔ RelativelySerializable conflict unit h
passed_answer conflict unit h order order' cycle cycle' (Err e) j = absurd j
passed_answer conflict unit h order order' cycle cycle' (Ok a) j =
    let w = passed_serializable conflict unit h order order' cycle cycle' a.verdict a.count j in
    (λ e. w.0 (let z : a.verdict ≡ Passed = cc in z), λ s. ap Ok (w.1 s))

module _ (order order' cycle cycle' s : List ℕ) (r : JudgeAnswer) (j : BytesJudged order order' cycle cycle' s r)
    (long_order : step_limit ≤ length order) (long_cycle : step_limit ≤ length cycle)
    (c : Contents) (e : read s ≡ accepted c) where
  pub bytes_passed : (verdict_of r ≡ Ok Passed) ↔ RelativelySerializable (conflict_of c) (unit_of c) c.history
  bytes_passed = passed_answer (conflict_of c) (unit_of c) c.history order order' cycle cycle' r
      (subst (λ (o : Outcome). OutcomeJudged order order' cycle cycle' o r) e (j.long long_order long_cycle))

  -- demand 2, last sentence
  pub uncut_passed : c.cuts ≡ [] → (verdict_of r ≡ Ok Passed) ↔ ConflictSerializable (conflict_of c) c.history
  uncut_passed n = (λ p. u.0 (b.0 p), λ k. b.1 (u.1 k))
    where
      b : (verdict_of r ≡ Ok Passed) ↔ RelativelySerializable (conflict_of c) (unit []) c.history
      b = subst (λ (k : List Cut). (verdict_of r ≡ Ok Passed) ↔ RelativelySerializable (conflict_of c) (unit k) c.history) n bytes_passed

      u : RelativelySerializable (conflict_of c) (unit []) c.history ↔ ConflictSerializable (conflict_of c) c.history
      u = uncut c.pairs c.runs c.history
