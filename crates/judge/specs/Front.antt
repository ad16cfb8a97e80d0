-- The filled part of the buffer that the judge used (document 01, "Judge": the second call).
use Rattle.std.specs.Prelude.{Ok, Err, ℕ, List, [], length, take, leb}
use Rattle.book.specs.Format.{pick}
use Rattle.judge.specs.Judged.{JudgeAnswer}
use Rattle.judge.specs.declared.Verdict.{Verdict}
use Rattle.judge.specs.declared.Verdict.TheVariants.{Passed, Tangled}

-- its first bytes, as many as the count, or an empty part if it is shorter
abbrev pub first_bytes : ℕ → List ℕ → List ℕ
first_bytes count s = pick (leb count (length s)) (take count s) []

-- which of two things belongs to the verdict
abbrev pub by_verdict : {A : Type 0} → Verdict → A → A → A
by_verdict Passed order cycle = order
by_verdict Tangled order cycle = cycle

-- where the judge refused, the part is empty
abbrev pub front_of : JudgeAnswer → List ℕ → List ℕ → List ℕ
front_of (Ok j) order cycle = first_bytes j.count (by_verdict j.verdict order cycle)
front_of (Err e) order cycle = []

-- which of the two buffers the part begins at: the one that the verdict used; where the judge refused, the order buffer
abbrev pub front_at : {A : Type 0} → JudgeAnswer → A → A → A
front_at (Ok j) order cycle = by_verdict j.verdict order cycle
front_at (Err e) order cycle = order
