-- What a verdict says of a history, of the order buffer and of the cycle buffer (document 01, "Judge").
use Rattle.std.specs.Prelude.{Result, Ok, Err, ℕ, ◌≡◌, Bool, List, ◌++◌, length, drop}
use Rattle.theory.specs.Relative.{RelativelySerialOrder, RelativelySerializable}
use Rattle.theory.specs.Graph.{Cycle, Greedy}
use Rattle.book.specs.Numbers.{Numbers, numbers_of}
use Rattle.book.specs.declared.Refusal.{Refusal}
use Rattle.judge.specs.declared.Verdict.{Verdict}
use Rattle.judge.specs.declared.Verdict.TheVariants.{Passed, Tangled}
use Rattle.judge.specs.declared.Judgement.{Judgement}

-- what the judge answers: a refusal, or a judgement
abbrev pub JudgeAnswer : Type 0
JudgeAnswer = Result Judgement Refusal

-- the verdict's number: 1 for passed, 2 for tangled
abbrev pub verdict_value : Verdict → ℕ
verdict_value Passed = 1
verdict_value Tangled = 2

-- each case in numbers: where the judge refuses, the verdict is 0
abbrev pub verdict_numbers : Result Verdict Refusal → Numbers
verdict_numbers = numbers_of verdict_value

-- of an answer of the judge: the verdict, or the refusal; and how many bytes of a buffer it counts, none where it is refused
abbrev pub verdict_of : JudgeAnswer → Result Verdict Refusal
verdict_of (Ok j) = Ok j.verdict
verdict_of (Err e) = Err e

abbrev pub count_of : JudgeAnswer → ℕ
count_of (Ok j) = j.count
count_of (Err e) = 0

-- order and cycle are the buffers before the call, order' and cycle' after it
module _ (conflict : ℕ → ℕ → ℕ → ℕ → Bool) (unit : ℕ → ℕ → ℕ → ℕ) (h order order' cycle cycle' : List ℕ) where
  -- 01: the order buffer begins with the run numbers of the order which at each turn takes the smallest place not yet taken whose arc sources are
  -- all taken; the count is the number of done steps; all else is unchanged. There is one such list of that length (theory's `greedy_unique`)
  pub record PassedAs (count : ℕ) : Type 0 where
    pub serializable : RelativelySerializable conflict unit h
    pub taken : List ℕ
    pub greedy : Greedy conflict unit h taken
    pub evidence : RelativelySerialOrder conflict unit h taken
    pub count_is : count ≡ length h
    pub order_is : order' ≡ taken ++ drop (length h) order
    pub cycle_unchanged : cycle' ≡ cycle

  -- 01: the cycle buffer begins with a cycle, one byte a place, and the count is its length; all else is unchanged
  pub record TangledAs (count : ℕ) : Type 0 where
    pub not_serializable : ¬ RelativelySerializable conflict unit h
    pub places : List ℕ
    pub evidence : Cycle conflict unit h places
    pub count_is : count ≡ length places
    pub cycle_is : cycle' ≡ places ++ drop (length places) cycle
    pub order_unchanged : order' ≡ order

  abbrev pub JudgedAs : Verdict → ℕ → Type 0
  JudgedAs Passed count = PassedAs count
  JudgedAs Tangled count = TangledAs count

  -- a history that was read is never refused
  abbrev pub JudgementAs : JudgeAnswer → Type 0
  JudgementAs (Ok j) = JudgedAs j.verdict j.count
  JudgementAs (Err e) = ⊥
