-- What the writer answers, and what it leaves in the buffer (document 01, "When something is turned away" and "Class tests, evidence, writer,
-- program").
use Rattle.std.specs.Prelude.{Result, Ok, Err, ℕ, ◌≡◌, List, ◌++◌, length, drop, leb}
use Rattle.book.specs.Format.{Outcome, refused, accepted, pick, read}
use Rattle.book.specs.Numbers.{Numbers, numbers_of}
use Rattle.book.specs.Book.{refusal_at}
use Rattle.book.specs.declared.Cause.TheVariants.{WriterBufferShort}
use Rattle.book.specs.declared.Refusal.{Refusal}

-- a refusal, or the length of what was written
abbrev pub Written : Type 0
Written = Result ℕ Refusal

-- each case in numbers: the length of what was written
abbrev pub written_numbers : Written → Numbers
written_numbers = numbers_of (λ n. n)

-- the answer for the bytes s, with the outcome of reading them, and a buffer of n bytes: the book's refusals come first, then 13
abbrev pub written_by : Outcome → List ℕ → ℕ → Written
written_by (refused cause place) s n = Err (refusal_at cause place)
written_by (accepted c) s n = pick (leb (length s) n) (Ok (length s)) (Err (refusal_at WriterBufferShort 0))

abbrev pub written : List ℕ → ℕ → Written
written s n = written_by (read s) s n

-- the buffer afterwards: an accepted book comes back byte for byte, later bytes unchanged; where the writer refuses, all bytes are
abbrev pub buffer_by : Written → List ℕ → List ℕ → List ℕ
buffer_by (Ok n) s out = s ++ drop (length s) out
buffer_by (Err e) s out = out

-- what a call of the writer on the bytes s does to a buffer, and answers
pub record Wrote (s before after : List ℕ) (r : Written) : Type 0 where
  pub answer : r ≡ written s (length before)
  pub buffer : after ≡ buffer_by (written s (length before)) s before
