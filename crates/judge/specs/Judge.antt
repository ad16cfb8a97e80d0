-- What the judge of a book's bytes promises (document 01, "Judge" and "When something is turned away").
use Rattle.std.specs.Prelude.{Err, ℕ, ◌≤◌, ◌<◌, ◌≡◌, ◌⊎◌, List, length}
use Rattle.book.specs.Format.{Outcome, refused, accepted, step_limit, read}
use Rattle.book.specs.Numbers.{refused_with}
use Rattle.book.specs.Book.{refusal_at}
use Rattle.book.specs.Meaning.{conflict_of, unit_of}
use Rattle.book.specs.declared.Cause.{Cause}
use Rattle.book.specs.declared.Cause.TheVariants.{JudgeBufferShort}
use Rattle.judge.specs.Judged.{JudgeAnswer, verdict_numbers, count_of, JudgementAs, verdict_of}

-- order and cycle are the buffers before the call, order' and cycle' after it
module _ (order order' cycle cycle' : List ℕ) where
  -- refused by a cause at a place: everything is left unchanged
  pub record RefusedAs (cause : Cause) (place : ℕ) (r : JudgeAnswer) : Type 0 where
    pub refusal : r ≡ Err (refusal_at cause place)
    pub numbers : verdict_numbers (verdict_of r) ≡ refused_with cause place
    pub count_is : count_of r ≡ 0
    pub order_unchanged : order' ≡ order
    pub cycle_unchanged : cycle' ≡ cycle

  -- refused as the book was, or the verdict on its history
  abbrev pub OutcomeJudged : Outcome → JudgeAnswer → Type 0
  OutcomeJudged (refused cause place) r = RefusedAs cause place r
  OutcomeJudged (accepted c) r = JudgementAs (conflict_of c) (unit_of c) c.history order order' cycle cycle' r

  -- the judge of the bytes s: 12 comes first
  pub record BytesJudged (s : List ℕ) (r : JudgeAnswer) : Type 0 where
    pub short : (length order < step_limit) ⊎ (length cycle < step_limit) → RefusedAs JudgeBufferShort 0 r
    pub long : step_limit ≤ length order → step_limit ≤ length cycle → OutcomeJudged (read s) r
