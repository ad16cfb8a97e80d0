-- Command 54 beside 53 (document 02, change 6), in the words of the documents' table: where it may stand, its kinds, and the step limits. How transfers
-- conflict is theory's Transfers; that books without a 54 give what they gave is OldBooks.
use Rattle.std.specs.Prelude.{ℕ, suc, ◌+◌, ◌<◌, ◌≡◌, ◌⊎◌, ◌↔◌, ◌≢◌, List, length}
use Rattle.theory.specs.Lists.{sum}
use Rattle.theory.specs.Deck.{Touch, single, transfer}
use Rattle.book.specs.Format.{Contents, step, ReadState, last, lengths, effect}
use Rattle.table.specs.BookTable.{Fault}

pub record Command54 : Type 0 where
  -- It stands wherever 53 may: but for its bytes, of which it has seven, what is wrong with it is what is wrong with a 53 of its first touch or of its second;
  pub stands : (s : List ℕ) (at : ℕ) (t : ReadState) (u v : Touch) (n : ℕ) → n ≢ 3
      → Fault s at t (step (transfer u v)) n ↔ (Fault s at t (step (single u)) n ⊎ Fault s at t (step (single v)) n)
  pub bytes : (s : List ℕ) (at : ℕ) (t : ReadState) (u v : Touch) → Fault s at t (step (transfer u v)) 3 ↔ (length s < at + 7)
  -- 5 applies to either kind,
  pub either_kind : (s : List ℕ) (at : ℕ) (t : ReadState) (u v : Touch) → Fault s at t (step (transfer u v)) 5 ↔ ((15 < u.kind) ⊎ (15 < v.kind))
  -- and the step limits count a transfer as one: behind it the last run, and the book, have one step more. These numbers are those that 30 and 31 test.
  pub one_in_the_run : (d : Contents) (u v : Touch) → 0 < length d.runs → last (lengths (effect (step (transfer u v)) d).runs) ≡ suc (last (lengths d.runs))
  pub one_in_the_book : (d : Contents) (u v : Touch) → 0 < length d.runs → sum (lengths (effect (step (transfer u v)) d).runs) ≡ suc (sum (lengths d.runs))
