-- The lines as the private functions of `report` put them.
use Rattle.std.specs.Prelude.{ℕ, ◌/◌, ◌%◌, ◌≤◌, ◌≡◌, List, ◌++◌, map, length, take, eqb}
use Rattle.buffer.specs.Put.{Put}
use Rattle.book.specs.Format.{step_limit}
use Rattle.names.specs.declared.ArcNames.{ArcNames}
use Rattle.judge.specs.declared.Verdict.{Verdict as JudgeVerdict}
use Rattle.judge.specs.declared.Verdict.TheVariants.{Passed, Tangled}
use Rattle.report.specs.Text.{Verdict, passed, tangled, Findings, serial_line, atomic_line, relserial_line, conflict_line, verdict_line, evidence_line, arcs_line}
use Rattle.report.specs.declared.Classes.{Classes}
use Rattle.report.specs.declared.Evidence.{Evidence}
use Rattle.report.specs.declared.Evidence.TheVariants.{Order, Cycle}

-- bs is put, and is no longer than the limit
pub record PutWithin (limit : ℕ) (bs before after : List ℕ) (r : ℕ) : Type 0 where
  pub put : Put bs before after r
  pub within : r ≤ limit

abbrev pub class_lines : Classes → List ℕ
class_lines c = serial_line c.serial ++ (atomic_line c.atomic ++ (relserial_line c.relserial ++ conflict_line c.conflict))

-- the names with this value, the one that `names_value` has of them
abbrev pub names_of_value : ℕ → ArcNames
names_of_value v = record { i = eqb (v % 2) 1; d = eqb (v / 2 % 2) 1; f = eqb (v / 4 % 2) 1; b = eqb (v / 8 % 2) 1 }

-- none of its lists is longer than a history
abbrev pub Short : Evidence → Type 0
Short (Order list) = length list.now ≤ step_limit
Short (Cycle places values) = (length places.now ≤ step_limit) × (length values.now ≤ step_limit)

-- the verdict that has it
abbrev pub verdict_by : Evidence → Verdict
verdict_by (Order list) = passed list.now
verdict_by (Cycle places values) = tangled places.now (map names_of_value values.now)

-- of the first n bytes of the judge's buffers
abbrev pub verdict_in : JudgeVerdict → ℕ → List ℕ → List ℕ → List ℕ → Verdict
verdict_in Passed n order cycle values = passed (take n order)
verdict_in Tangled n order cycle values = tangled (take n cycle) (map names_of_value (take n values))

pub record EvidenceIn (v : JudgeVerdict) (n : ℕ) (order cycle values : List ℕ) (e : Evidence) : Type 0 where
  pub verdict_is : verdict_by e ≡ verdict_in v n order cycle values
  pub short : Short e

abbrev pub verdict_lines : Verdict → List ℕ
verdict_lines v = verdict_line v ++ (evidence_line v ++ arcs_line v)

abbrev pub findings : ℕ → Classes → Verdict → Findings
findings n c v = record {
  done = n;
  serial = c.serial;
  atomic = c.atomic;
  relserial = c.relserial;
  conflict = c.conflict;
  verdict = v;
}
