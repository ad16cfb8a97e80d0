-- A refusal that is a row of the table, and a call that is carried out.
use Prim.Native.Nat.{ℕ}
use mathlib.Core.Path.{◌≡◌, refl}
use mathlib.Core.List.{List}
use Rattle.book.specs.Format.{Contents, Outcome, refused, accepted, read}
use Rattle.book.specs.Numbers.{number, Numbers, refused_with, reading_numbers}
use Rattle.book.specs.declared.Cause.{Cause}
use Rattle.table.specs.BookTable.{BookRow}
use Rattle.table.proofs.BookTable.{refused_row, row_single, accepted_no_row}
use Rattle.claims.specs.Demands.{TurnsAway}

-- ---- a refusal, and a call that is carried out

module _ (R : ℕ → ℕ → Type 0) (U : Type 0) where
  pub turned : (n : Numbers) → R n.number n.place → n.value ≡ 0 → U → ((m at : ℕ) → R m at → (n.number ≡ m) × (n.place ≡ at)) → TurnsAway R n U
  turned n r v u f = record { row = λ z. r; no_value = λ z. v; unchanged = λ z. u; refused_by = f }

  pub carried : (n : Numbers) → n.number ≡ 0 → ((m at : ℕ) → ¬ R m at) → TurnsAway R n U
  carried n e f = record { row = λ z. absurd (z e); no_value = λ z. absurd (z e); unchanged = λ z. absurd (z e); refused_by = λ m at r. absurd (f m at r) }

  pub without_value : (n : Numbers) → TurnsAway R n U → TurnsAway R (record { number = n.number; place = n.place; value = 0 }) U
  without_value n t = record { row = t.row; no_value = λ z. refl; unchanged = t.unchanged; refused_by = t.refused_by }

-- the same refusals, as rows of another form
pub same_rows : {R S : ℕ → ℕ → Type 0} {U : Type 0} {n : Numbers} → ((m at : ℕ) → R m at → S m at) → ((m at : ℕ) → S m at → R m at) → TurnsAway R n U → TurnsAway S n U
same_rows to from t = record { row = λ z. to _ _ (t.row z); no_value = t.no_value; unchanged = t.unchanged; refused_by = λ m at r. t.refused_by m at (from m at r) }

-- ---- calls that read a book and have no refusal of their own

module _ (s : List ℕ) (U : Type 0) where
  pub book_refused : (cause : Cause) (at : ℕ) → read s ≡ refused cause at → U → TurnsAway (BookRow s) (refused_with cause at) U
  book_refused cause at e u =
      let b = refused_row s cause at e in
      turned (BookRow s) U (refused_with cause at) b refl u (λ m p r. row_single s (number cause) m at p b r)

  pub book_accepted : (c : Contents) (n : Numbers) → read s ≡ accepted c → n.number ≡ 0 → TurnsAway (BookRow s) n U
  book_accepted c n e z = carried (BookRow s) U n z (accepted_no_row s c e)

  pub outcome_turns : (o : Outcome) → read s ≡ o → ((cause : Cause) (at : ℕ) → o ≡ refused cause at → U) → TurnsAway (BookRow s) (reading_numbers o) U
  outcome_turns (refused cause at) e u = book_refused cause at e (u cause at refl)
  outcome_turns (accepted c) e u = book_accepted c (reading_numbers (accepted c)) e refl
