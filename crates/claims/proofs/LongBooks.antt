-- The numbers from before change 1, by the cause that a row of the table has.
use Prim.Native.Nat.{ℕ}
use mathlib.Core.Path.{◌≡◌, refl, ap, sym, ◌∙◌}
use mathlib.Core.Logic.{◌≢◌}
use mathlib.Core.List.{List}
use borrow.Author.Tests.{ne_eqb}
use Rattle.book.specs.Format.{Outcome, refused, accepted, read}
use Rattle.book.specs.Numbers.{number, reading_numbers}
use Rattle.book.specs.declared.Cause.{Cause}
use Rattle.book.specs.declared.Cause.TheVariants.{TooManyRuns, RunTooLong, TooManySteps}
use Rattle.book.proofs.Numbers.{own_numbers}
use Rattle.table.specs.BookTable.{BookRow, NoRow}
use Rattle.claims.specs.LongBooks.{number_before, refusal, numbers_before, LongBooks}
use Rattle.table.proofs.BookTable.{refused_row, row_refused}

same_number : (cause : Cause) → number cause ≢ 30 → number cause ≢ 31 → number_before cause ≡ number cause
same_number cause n m = rw (ne_eqb (number cause) 30 n, ne_eqb (number cause) 31 m)

-- the number that a row's book had before, by its cause
row_before : (s : List ℕ) (n m place : ℕ) → BookRow s n place → ((cause : Cause) → number cause ≡ n → number_before cause ≡ m) → numbers_before (read s) ≡ refusal m place
row_before s n m place b f =
    let x = row_refused s n place b in
    ap numbers_before x.1.0 ∙ ap (λ (k : ℕ). refusal k place) (f x.0 x.1.1)

no_row_before : (s : List ℕ) → NoRow s → numbers_before (read s) ≡ reading_numbers (read s)
no_row_before s none = go (read s) refl
  where
    go : (o : Outcome) → read s ≡ o → numbers_before o ≡ reading_numbers o
    go (refused cause at) e = absurd (none (number cause) at (refused_row s cause at e))
    go (accepted c) e = refl

pub long_books : LongBooks
long_books = record {
  left_for_runs = λ cause e. own_numbers cause TooManyRuns e;
  other_causes = λ cause n m. same_number cause (λ e. n (own_numbers cause RunTooLong e)) (λ e. m (own_numbers cause TooManySteps e));
  was_8_of_30 = λ s place b. row_before s 30 8 place b (λ cause e. ap number_before (own_numbers cause RunTooLong e));
  was_8_of_31 = λ s place b. row_before s 31 8 place b (λ cause e. ap number_before (own_numbers cause TooManySteps e));
  refused_before = λ s n place h k b. row_before s n n place b (λ cause e. same_number cause (λ q. h (sym e ∙ q)) (λ q. k (sym e ∙ q)) ∙ e);
  accepted_before = no_row_before;
}
