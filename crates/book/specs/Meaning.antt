-- Conflict and unit of a book's contents, and the classes of its history: theory's definitions (document 01, "Dependence", "Units, orders and arcs"
-- and "Judge").
use Rattle.std.specs.Prelude.{ℕ, Bool}
use Rattle.theory.specs.History.{Serial}
use Rattle.theory.specs.Relative.{RelativelyAtomic, RelativelySerial, ConflictSerializable, RelativelySerializable}
use Rattle.theory.specs.Deck.{conflict, unit}
use Rattle.book.specs.Format.{Contents}

abbrev pub conflict_of : Contents → ℕ → ℕ → ℕ → ℕ → Bool
conflict_of c = conflict c.pairs c.runs

abbrev pub unit_of : Contents → ℕ → ℕ → ℕ → ℕ
unit_of c = unit c.cuts

-- the classes: what each class test asks of a book's history
abbrev pub SerialHistory : Contents → Type 0
SerialHistory c = Serial c.history

abbrev pub RelativelyAtomicHistory : Contents → Type 0
RelativelyAtomicHistory c = RelativelyAtomic (unit_of c) c.history

abbrev pub RelativelySerialHistory : Contents → Type 0
RelativelySerialHistory c = RelativelySerial (conflict_of c) (unit_of c) c.history

abbrev pub ConflictSerializableHistory : Contents → Type 0
ConflictSerializableHistory c = ConflictSerializable (conflict_of c) c.history

-- and what the judge asks of it: passed, in document 01's word
abbrev pub RelativelySerializableHistory : Contents → Type 0
RelativelySerializableHistory c = RelativelySerializable (conflict_of c) (unit_of c) c.history
