-- The text that the program writes for a book, as bytes (document 01, "Class tests, evidence, writer, program"; document 02, change 5).
use Rattle.std.specs.Prelude.{ℕ, zero, suc, ◌/◌, ◌%◌, Bool, true, false, cond, List, [], ◌∷◌, ◌++◌, ltb}
use Rattle.buffer.specs.Each.{each}
use Rattle.names.specs.declared.ArcNames.{ArcNames}
use Rattle.report.specs.Letters.{a, c, d, e, f, g, i, l, m, n, o, p, r, s, t, u, v, y, I, D, F, B, blank, line_end, digit}

-- ---- what is said of a book

-- passed, with the order's run numbers; or tangled, with the cycle's places and the names of its arcs
pub data Verdict : Type 0 where
  passed : List ℕ → Verdict
  tangled : List ℕ → List ArcNames → Verdict

-- the number of done steps, the four classes, the verdict
pub record Findings : Type 0 where
  pub done : ℕ
  pub serial : Bool
  pub atomic : Bool
  pub relserial : Bool
  pub conflict : Bool
  pub verdict : Verdict

-- refused, with number and place; or accepted
pub data Report : Type 0 where
  refused_at : ℕ → ℕ → Report
  accepted_with : Findings → Report

-- ---- how it is written

-- base ten: the last k digits of x at most, the most significant first, and no leading zeros
abbrev pub digits : ℕ → ℕ → List ℕ
digits zero x = []
digits (suc k) x = cond (ltb x 10) (digit x ∷ []) (digits k (x / 10) ++ digit (x % 10) ∷ [])

-- suc x digits are always enough
unfoldable pub decimal : ℕ → List ℕ
decimal x = digits (suc x) x

abbrev pub answer_word : Bool → List ℕ
answer_word true = y ∷ e ∷ s ∷ []
answer_word false = n ∷ o ∷ []

-- one blank before each number
abbrev pub numbers : List ℕ → List ℕ
numbers = each (λ x. blank ∷ decimal x)

-- the first of I, D, F and B that holds; where none does, B, and no arc of a cycle is so
abbrev pub first_letter : ArcNames → ℕ
first_letter w = cond w.i I (cond w.d D (cond w.f F B))

-- one blank before each letter
abbrev pub letters : List ArcNames → List ℕ
letters = each (λ w. blank ∷ first_letter w ∷ [])

-- each line ends with the byte 0A
abbrev pub line : List ℕ → List ℕ
line xs = xs ++ line_end ∷ []

-- ---- the lines

abbrev pub refused_line : ℕ → ℕ → List ℕ
refused_line number place = line ((r ∷ e ∷ f ∷ u ∷ s ∷ e ∷ d ∷ blank ∷ []) ++ (decimal number ++ ((blank ∷ a ∷ t ∷ blank ∷ []) ++ decimal place)))

abbrev pub done_line : ℕ → List ℕ
done_line x = line ((d ∷ o ∷ n ∷ e ∷ blank ∷ []) ++ decimal x)

abbrev pub serial_line : Bool → List ℕ
serial_line b = line ((s ∷ e ∷ r ∷ i ∷ a ∷ l ∷ blank ∷ []) ++ answer_word b)

abbrev pub atomic_line : Bool → List ℕ
atomic_line b = line ((a ∷ t ∷ o ∷ m ∷ i ∷ c ∷ blank ∷ []) ++ answer_word b)

abbrev pub relserial_line : Bool → List ℕ
relserial_line b = line ((r ∷ e ∷ l ∷ s ∷ e ∷ r ∷ i ∷ a ∷ l ∷ blank ∷ []) ++ answer_word b)

abbrev pub conflict_line : Bool → List ℕ
conflict_line b = line ((c ∷ o ∷ n ∷ f ∷ l ∷ i ∷ c ∷ t ∷ blank ∷ []) ++ answer_word b)

abbrev pub verdict_line : Verdict → List ℕ
verdict_line (passed xs) = line (v ∷ e ∷ r ∷ d ∷ i ∷ c ∷ t ∷ blank ∷ p ∷ a ∷ s ∷ s ∷ e ∷ d ∷ [])
verdict_line (tangled xs ws) = line (v ∷ e ∷ r ∷ d ∷ i ∷ c ∷ t ∷ blank ∷ t ∷ a ∷ n ∷ g ∷ l ∷ e ∷ d ∷ [])

abbrev pub evidence_line : Verdict → List ℕ
evidence_line (passed xs) = line ((o ∷ r ∷ d ∷ e ∷ r ∷ []) ++ numbers xs)
evidence_line (tangled xs ws) = line ((c ∷ y ∷ c ∷ l ∷ e ∷ []) ++ numbers xs)

-- under a cycle, and nowhere else
abbrev pub arcs_line : Verdict → List ℕ
arcs_line (passed xs) = []
arcs_line (tangled xs ws) = line ((a ∷ r ∷ c ∷ s ∷ []) ++ letters ws)

-- ---- the text

unfoldable pub text_of : Report → List ℕ
text_of (refused_at number place) = refused_line number place
text_of (accepted_with w) =
    done_line w.done
    ++ (serial_line w.serial
    ++ (atomic_line w.atomic
    ++ (relserial_line w.relserial
    ++ (conflict_line w.conflict
    ++ (verdict_line w.verdict
    ++ (evidence_line w.verdict
    ++ arcs_line w.verdict))))))
