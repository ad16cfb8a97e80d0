-- What `report` promises: the text of what the definitions say of a book's bytes (document 01, "Class tests, evidence, writer, program"; document 02,
-- change 5).
use Rattle.std.specs.Prelude.{ℕ, ◌≡◌, Bool, List, length}
use Rattle.theory.specs.Relative.{RelativelySerial, ConflictSerializable, RelativelySerialOrder, RelativelySerializable}
use Rattle.theory.specs.Graph.{Cycle, Greedy}
use Rattle.theory.specs.Rows.{Is}
use Rattle.buffer.specs.Put.{Put}
use Rattle.names.specs.Names.{cycle_names}
use Rattle.book.specs.Format.{Contents, Outcome, refused, accepted}
use Rattle.book.specs.Numbers.{number}
use Rattle.book.specs.Meaning.{conflict_of, unit_of, SerialHistory, RelativelyAtomicHistory}
use Rattle.report.specs.Text.{Verdict, passed, tangled, Findings, Report, refused_at, accepted_with, text_of}

-- ---- what is said of a book

-- by the conflict of steps on which it rests: the book's own below
module _ (conflict_by : ℕ → ℕ → ℕ → ℕ → Bool) (c : Contents) where
  -- passed, with the order which at each turn takes the smallest place not yet taken whose arc sources are all taken; or tangled, with a cycle and the
  -- names of its arcs, as the history and the cycle have them. There is one such order (theory's `greedy_unique`)
  abbrev pub VerdictBy : Verdict → Type 0
  VerdictBy (passed order) = RelativelySerialOrder conflict_by (unit_of c) c.history order × Greedy conflict_by (unit_of c) c.history order
  VerdictBy (tangled cycle names) =
      (¬ RelativelySerializable conflict_by (unit_of c) c.history) × Cycle conflict_by (unit_of c) c.history cycle × (names ≡ cycle_names conflict_by (unit_of c) c.history cycle)

  -- the four classes of an accepted book; `Is b P` says that P holds exactly where b is true
  pub record ClassesBy (serial atomic relserial conflict : Bool) : Type 0 where
    pub serial_is : Is serial (SerialHistory c)
    pub atomic_is : Is atomic (RelativelyAtomicHistory c)
    pub relserial_is : Is relserial (RelativelySerial conflict_by (unit_of c) c.history)
    pub conflict_is : Is conflict (ConflictSerializable conflict_by c.history)

  pub record FindingsBy (w : Findings) : Type 0 where
    pub done_is : w.done ≡ length c.history
    pub classes_are : ClassesBy w.serial w.atomic w.relserial w.conflict
    pub verdict_is : VerdictBy w.verdict

abbrev pub VerdictOn : Contents → Verdict → Type 0
VerdictOn c = VerdictBy (conflict_of c) c

abbrev pub ClassesOn : Contents → Bool → Bool → Bool → Bool → Type 0
ClassesOn c = ClassesBy (conflict_of c) c

abbrev pub FindingsOn : Contents → Findings → Type 0
FindingsOn c = FindingsBy (conflict_of c) c

-- a refused book gives only its number and place
abbrev pub ReportOn : Outcome → Report → Type 0
ReportOn (refused cause place) w = w ≡ refused_at (number cause) place
ReportOn (accepted c) (refused_at n place) = ⊥
ReportOn (accepted c) (accepted_with w) = FindingsOn c w

-- ---- what the call does

-- a call of `report` on bytes whose reading has the outcome o: the buffer begins with the text of the report on it, what lies behind is as
-- before, and the answer n is the text's length
pub record Reports (o : Outcome) (before after : List ℕ) (n : ℕ) : Type 0 where
  pub report : Report
  pub report_on : ReportOn o report
  pub put : Put (text_of report) before after n
