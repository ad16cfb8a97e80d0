-- The refusals of a judgement of a book or of an island: 12 comes first, then those of what is judged.
use Rattle.std.specs.Prelude.{Ok, Err}
use Prim.Native.Nat.{ℕ, ◌≤◌, ◌<◌}
use native.Mathlib.Decide.{dec_lt}
use native.Mathlib.Omega.{arith}
use mathlib.Core.Path.{◌≡◌, refl}
use mathlib.Core.Logic.{◌⊎◌, inl, inr}
use mathlib.Core.List.{List}
use lib.ListN.{length}
use Rattle.book.specs.Format.{Contents, accepted}
use Rattle.book.specs.Numbers.{refused_with, value_of}
use Rattle.book.specs.declared.Cause.{Cause}
use Rattle.book.specs.declared.Cause.TheVariants.{JudgeBufferShort}
use Rattle.judge.specs.Judged.{JudgeAnswer, verdict_numbers, count_of, verdict_of}
use Rattle.judge.specs.Judge.{RefusedAs, OutcomeJudged}
use Rattle.judge.specs.declared.Verdict.{Verdict}
use Rattle.judge.specs.declared.Verdict.TheVariants.{Passed, Tangled}
use Rattle.table.specs.BookTable.{most_steps}
use Rattle.claims.specs.Demands.{TurnsAway, BuffersUnchanged}
use Rattle.claims.proofs.Turned.{turned, carried}

-- the refusals of the judge of what has the rows R as its own refusals
pub data JudgeRowBy (R : ℕ → ℕ → Type 0) (order cycle : List ℕ) : ℕ → ℕ → Type 0 where
  short_first : length order < most_steps → JudgeRowBy R order cycle 12 0
  short_second : length cycle < most_steps → JudgeRowBy R order cycle 12 0
  behind_12 : {n place : ℕ} → most_steps ≤ length order → most_steps ≤ length cycle → R n place → JudgeRowBy R order cycle n place

module _ (R : ℕ → ℕ → Type 0) (order order' cycle cycle' : List ℕ) (r : JudgeAnswer) where
  abbrev Same : Type 0
  Same = BuffersUnchanged order order' cycle cycle' (count_of r)

  pub buffers_unchanged : (cause : Cause) (at : ℕ) → RefusedAs order order' cycle cycle' cause at r → Same
  buffers_unchanged cause at k = record { order_same = k.order_unchanged; cycle_same = k.cycle_unchanged; no_count = k.count_is }

  -- a history that was judged is not refused
  pub judged_carried : (c : Contents) → OutcomeJudged order order' cycle cycle' (accepted c) r → ((m at : ℕ) → ¬ R m at) → TurnsAway R (verdict_numbers (verdict_of r)) Same
  judged_carried c k none = go r k
    where
      by_verdict : (v : Verdict) → TurnsAway R (verdict_numbers (Ok v)) Same
      by_verdict Passed = carried R Same (value_of 1) refl none
      by_verdict Tangled = carried R Same (value_of 2) refl none

      go : (x : JudgeAnswer) → OutcomeJudged order order' cycle cycle' (accepted c) x → TurnsAway R (verdict_numbers (verdict_of x)) Same
      go (Err refusal) k = absurd k
      go (Ok j) k = by_verdict j.verdict

  -- 12 comes first
  only_12 : (length order < most_steps) ⊎ (length cycle < most_steps) → (m at : ℕ) → JudgeRowBy R order cycle m at → (12 ≡ m) × (0 ≡ at)
  only_12 h m at (short_first l) = (refl, refl)
  only_12 h m at (short_second l) = (refl, refl)
  only_12 (inl h) m at (behind_12 a b x) = absurd (omega arith)
  only_12 (inr h) m at (behind_12 a b x) = absurd (omega arith)

  -- with buffers that are long enough the others are left
  only_others : most_steps ≤ length order → most_steps ≤ length cycle → {m at : ℕ} → JudgeRowBy R order cycle m at → R m at
  only_others a b (short_first l) = absurd (omega arith)
  only_others a b (short_second l) = absurd (omega arith)
  only_others a b (behind_12 x y z) = z

  pub by_buffers : ((length order < most_steps) ⊎ (length cycle < most_steps) → RefusedAs order order' cycle cycle' JudgeBufferShort 0 r)
      → (most_steps ≤ length order → most_steps ≤ length cycle → TurnsAway R (verdict_numbers (verdict_of r)) Same)
      → TurnsAway (JudgeRowBy R order cycle) (verdict_numbers (verdict_of r)) Same
  by_buffers short long = go (dec_lt (length order) most_steps) (dec_lt (length cycle) most_steps)
    where
      by_12 : (length order < most_steps) ⊎ (length cycle < most_steps) → JudgeRowBy R order cycle 12 0 → TurnsAway (JudgeRowBy R order cycle) (verdict_numbers (verdict_of r)) Same
      by_12 h x =
          let k = short h in
          rw k.numbers (turned (JudgeRowBy R order cycle) Same (refused_with JudgeBufferShort 0) x refl (buffers_unchanged JudgeBufferShort 0 k) (only_12 h))

      go : Dec (length order < most_steps) → Dec (length cycle < most_steps) → TurnsAway (JudgeRowBy R order cycle) (verdict_numbers (verdict_of r)) Same
      go (yes h) d = by_12 (inl h) (short_first h)
      go (no n) (yes h) = by_12 (inr h) (short_second h)
      go (no n) (no m) =
          let a : most_steps ≤ length order = omega arith in
          let b : most_steps ≤ length cycle = omega arith in
          let t = long a b in
          record { row = λ z. behind_12 a b (t.row z); no_value = t.no_value; unchanged = t.unchanged; refused_by = λ m at x. t.refused_by m at (only_others a b x) }
