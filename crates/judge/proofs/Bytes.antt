-- A refusal counts nothing and leaves both buffers as they were.
use Rattle.std.specs.Prelude.{Err}
use Prim.Native.Nat.{ℕ}
use mathlib.Core.Path.{refl}
use mathlib.Core.List.{List}
use Rattle.book.specs.Book.{refusal_at}
use Rattle.book.specs.declared.Cause.{Cause}
use Rattle.judge.specs.Judge.{RefusedAs}

pub refused_as : (order cycle : List ℕ) (cause : Cause) (place : ℕ) → RefusedAs order order cycle cycle cause place (Err (refusal_at cause place))
refused_as order cycle cause place = record { refusal = refl; numbers = refl; count_is = refl; order_unchanged = refl; cycle_unchanged = refl }
