-- The text of a report, in the groups that the functions put.
use Prim.Native.Nat.{ℕ}
use mathlib.Core.Path.{◌≡◌}
use mathlib.Core.List.{List, [], ◌∷◌, ◌++◌, map, append_assoc, append-nil}
use Rattle.report.specs.Letters.{a, c, d, e, f, r, s, t, u, blank, line_end}
use Rattle.buffer.specs.Each.{each}
use Rattle.buffer.proofs.EachLaws.{each_map}
use Rattle.names.specs.declared.ArcNames.{ArcNames}
use Rattle.report.specs.Text.{Verdict, passed, tangled, refused_at, accepted_with, first_letter, line, decimal, done_line, serial_line, atomic_line, relserial_line, conflict_line, verdict_line, evidence_line, arcs_line, text_of}
use Rattle.report.specs.Inner.Lines.{class_lines, names_of_value, verdict_lines, findings}
use Rattle.report.specs.declared.Classes.{Classes}

four : (v w x y : List ℕ) → ((v ++ w) ++ x) ++ y ≡ v ++ (w ++ (x ++ y))
four v w x y = simp append_assoc

pub four_classes : (c : Classes) → ((serial_line c.serial ++ atomic_line c.atomic) ++ relserial_line c.relserial) ++ conflict_line c.conflict ≡ class_lines c
four_classes c = four (serial_line c.serial) (atomic_line c.atomic) (relserial_line c.relserial) (conflict_line c.conflict)

eight : (a b c d e f g k : List ℕ) → (a ++ (b ++ (c ++ (d ++ e)))) ++ (f ++ (g ++ k)) ≡ a ++ (b ++ (c ++ (d ++ (e ++ (f ++ (g ++ k))))))
eight a b c d e f g k = simp append_assoc

pub findings_text : (n : ℕ) (c : Classes) (v : Verdict) → (done_line n ++ class_lines c) ++ verdict_lines v ≡ text_of (accepted_with (findings n c v))
unfolding text_of
findings_text n c v = eight
    (done_line n)
    (serial_line c.serial)
    (atomic_line c.atomic)
    (relserial_line c.relserial)
    (conflict_line c.conflict)
    (verdict_line v)
    (evidence_line v)
    (arcs_line v)

module _ (l vs : List ℕ) where
  abbrev cycle : Verdict
  cycle = tangled l (map names_of_value vs)

  -- the lines of a tangled history, its arcs behind the others
  pub tangled_text : (verdict_line cycle ++ evidence_line cycle) ++ line ((a ∷ r ∷ c ∷ s ∷ []) ++ each (λ v. blank ∷ first_letter (names_of_value v) ∷ []) vs) ≡ verdict_lines cycle
  tangled_text = rw (each_map (λ (w : ArcNames). blank ∷ first_letter w ∷ []) names_of_value vs) (append_assoc (verdict_line cycle) (evidence_line cycle) _)

-- a passed one has no arcs
pub passed_text : (l : List ℕ) → verdict_line (passed l) ++ evidence_line (passed l) ≡ verdict_lines (passed l)
passed_text l = rw (append-nil (evidence_line (passed l)))

pub refused_text : (number place : ℕ) → (((r ∷ e ∷ f ∷ u ∷ s ∷ e ∷ d ∷ blank ∷ []) ++ decimal number) ++ ((blank ∷ a ∷ t ∷ blank ∷ []) ++ decimal place)) ++ (line_end ∷ []) ≡ text_of (refused_at number place)
unfolding text_of
refused_text number place = simp append_assoc
