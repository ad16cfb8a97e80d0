-- Each of `book_numbers` is the number of some book's refusal: a book for each; 1 by its length, the others read by computation.
use Prim.Native.Nat.{ℕ, zero, suc, ◌<◌}
use native.Mathlib.Omega.{arith}
use mathlib.Core.Path.{◌≡◌, refl, subst}
use mathlib.Core.Bool.{Bool, true, false}
use mathlib.Core.List.{List, [], ◌∷◌}
use borrow.Author.Tests.{eqb-true}
use lib.ListN.{replicate, length-replicate}
use lib.Dec.{eqb}
use Rattle.theory.specs.History.{suc_if, count}
use Rattle.theory.proofs.Lists.{get_or_zeros}
use Rattle.book.specs.Format.{refused, operand_tests, obey, end_at, command_at, read_from, read_commands, read_by, read}
use Rattle.book.specs.Numbers.{number}
use Rattle.book.specs.TestOrder.{book_numbers}
use Rattle.book.specs.declared.Cause.{Cause}
use Rattle.book.specs.declared.Cause.TheVariants.{NoCommand, EndsEarly, OutOfOrder, WrongKind, NotRising, WrongRun, TooManyRuns, RunTooLong, TooManySteps, WrongCut, NoStepLeft, BytesAfterEnd}
use Rattle.plain.specs.Plain.{In}
use Rattle.table.specs.BookTable.{book_over}
use Rattle.claims.specs.Demands.{SomeBook}
use Rattle.table.proofs.BookTable.{refused_row}
use Rattle.claims.proofs.Bytes.{all_bytes, bytes}

infixr 5 ◌then◌
-- a book for each number of the list
data Books : List ℕ → Type 0 where
  end : Books []
  ◌then◌ : {n : ℕ} {ns : List ℕ} → SomeBook n → Books ns → Books (n ∷ ns)

book_for : (ns : List ℕ) → Books ns → (n : ℕ) → In n ns → SomeBook n
book_for [] end n h = absurd (omega arith)
book_for (m ∷ ms) (x then b) n h = go (eqb m n) refl h (book_for ms b n)
  where
    go : (y : Bool) → eqb m n ≡ y → 0 < suc_if y (count ms n) → (In n ms → SomeBook n) → SomeBook n
    go true e h r = subst SomeBook (eqb-true m n e) x
    go false e h r = r h

some_book : (s : List ℕ) (cause : Cause) (place : ℕ) → all_bytes s ≡ true → read s ≡ refused cause place → SomeBook (number cause)
some_book s cause place b e = record { book = s; bytes = bytes s b; place = place; row = refused_row s cause place e }

too_long : SomeBook 1
too_long = record { book = replicate 16385 0; bytes = λ i. omega (arith, get_or_zeros 16385 i); place = 0; row = book_over (omega (arith, length-replicate {A = ℕ} 16385 0)) }

-- so many steps, then m
abbrev steps : ℕ → List ℕ → List ℕ
steps zero m = m
steps (suc n) m = 0x53 ∷ 0 ∷ 0 ∷ 0 ∷ steps n m

-- so many runs from r on, each with so many steps, then m
abbrev runs : ℕ → ℕ → ℕ → List ℕ → List ℕ
runs zero r n m = m
runs (suc k) r n m = 0x52 ∷ r ∷ steps n (runs k (suc r) n m)

books : Books book_numbers
unfolding read_by read_commands read_from command_at end_at obey operand_tests
books =
    too_long
    then some_book (0 ∷ []) NoCommand 0 refl refl
    then some_book [] EndsEarly 0 refl refl
    then some_book (steps 1 []) OutOfOrder 0 refl refl
    then some_book (0x43 ∷ 1 ∷ 0 ∷ []) WrongKind 0 refl refl
    then some_book (0x52 ∷ 1 ∷ []) WrongRun 0 refl refl
    then some_book (runs 17 0 0 []) TooManyRuns 32 refl refl
    then some_book (runs 1 0 33 []) RunTooLong 130 refl refl
    then some_book (runs 4 0 32 (runs 1 4 1 [])) TooManySteps 522 refl refl
    then some_book (runs 2 0 0 (0x42 ∷ 0 ∷ 1 ∷ 1 ∷ [])) WrongCut 4 refl refl
    then some_book (0x43 ∷ 0 ∷ 0 ∷ 0x43 ∷ 0 ∷ 0 ∷ []) NotRising 3 refl refl
    then some_book (runs 1 0 0 (0x48 ∷ 0 ∷ [])) NoStepLeft 2 refl refl
    then some_book (0x45 ∷ 0x45 ∷ []) BytesAfterEnd 1 refl refl
    then end

pub each_number : (n : ℕ) → In n book_numbers → SomeBook n
each_number = book_for book_numbers books
