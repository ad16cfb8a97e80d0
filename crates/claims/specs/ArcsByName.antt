-- Arcs by name (document 02, change 5), as statements about every answer that meets the calls' contracts. The cycle check and the judge give the answers that
-- they gave: a cycle by the arc test's new answer is one as before, and their contracts fix every answer but which cycle the judge returns (Determined).
use Rattle.std.specs.Prelude.{Ok, ℕ, suc, ◌-◌, ◌≤◌, ◌<◌, ◌≡◌, ◌⊎◌, ◌≢◌, ◌↔◌, List, [], ◌∷◌, ◌++◌, length, get_or, take}
use Rattle.buffer.specs.Each.{each}
use Rattle.theory.specs.Graph.{ArcI, ArcD, ArcF, ArcB, Arc, Cycle}
use Rattle.theory.specs.Rows.{Is}
use Rattle.book.specs.Format.{Contents, accepted, step_limit, read}
use Rattle.book.specs.Numbers.{value_of}
use Rattle.book.specs.Meaning.{conflict_of, unit_of}
use Rattle.names.specs.Names.{names_of, names_value}
use Rattle.names.specs.declared.ArcNames.{ArcNames}
use Rattle.classes.specs.Tested.{Yes, Tested, tested_numbers, TestedAs}
use Rattle.evidence.specs.Named.{Named, named_numbers, NamedAs}
use Rattle.judge.specs.Judge.{BytesJudged}
use Rattle.judge.specs.Judged.{JudgeAnswer, verdict_of, count_of}
use Rattle.judge.specs.declared.Verdict.TheVariants.{Tangled}
use Rattle.report.specs.Text.{Findings, accepted_with, tangled, decimal}
use Rattle.report.specs.Reporting.{Reports}
use Rattle.capi.specs.Calls.{TestCall, NameCall, JudgeCall}
use Rattle.capi.specs.declared.Answered.{Answered}
use Rattle.capi.specs.declared.Judged.{Judged}
use Rattle.claims.specs.Demands.{answered_numbers, judged_numbers}

-- ---- the arc test

-- what it is asked of a book's contents
abbrev pub arcs_from : ℕ → ℕ → Contents → ArcNames
arcs_from x y c = names_of (conflict_of c) (unit_of c) c.history x y

-- what it was asked when it said only yes or no
abbrev pub ArcFrom : ℕ → ℕ → Contents → Type 0
ArcFrom x y c = Arc (conflict_of c) (unit_of c) c.history x y

-- w has all of I, D, F and B that hold from x to y, and no other
pub record AllThatHold (c : Contents) (x y : ℕ) (w : ArcNames) : Type 0 where
  pub i_holds : Is w.i (ArcI c.history x y)
  pub d_holds : Is w.d (ArcD (conflict_of c) c.history x y)
  pub f_holds : Is w.f (ArcF (conflict_of c) (unit_of c) c.history x y)
  pub b_holds : Is w.b (ArcB (conflict_of c) (unit_of c) c.history x y)

-- ---- the cycle check and the judge

-- the arc test answers that an arc leads from x to y
abbrev pub SomeName : Contents → ℕ → ℕ → Type 0
SomeName c x y = names_value (arcs_from x y c) ≢ 0

-- a cycle by the arc test's answers: its places are distinct, 2 to the number of done steps, with an arc from each to the next and from the last to the first
pub record CycleByNames (c : Contents) (l : List ℕ) : Type 0 where
  pub least : 2 ≤ length l
  pub most : length l ≤ length c.history
  pub distinct : (i j : ℕ) → i < j → j < length l → get_or l i 0 ≢ get_or l j 0
  pub next : (i : ℕ) → suc i < length l → SomeName c (get_or l i 0) (get_or l (suc i) 0)
  pub back : SomeName c (get_or l (length l - 1) 0) (get_or l 0 0)

-- a cycle as before, by the arcs of the graph
abbrev pub CycleBefore : List ℕ → Contents → Type 0
CycleBefore l c = Cycle (conflict_of c) (unit_of c) c.history l

-- ---- the program's line

-- the letter, in ASCII, is the first of I, D, F and B that holds from x to y
pub data FirstHolds (c : Contents) (x y : ℕ) : ℕ → Type 0 where
  letter_I : ArcI c.history x y → FirstHolds c x y 0x49
  letter_D : ¬ ArcI c.history x y → ArcD (conflict_of c) c.history x y → FirstHolds c x y 0x44
  letter_F : ¬ ArcI c.history x y → ¬ ArcD (conflict_of c) c.history x y → ArcF (conflict_of c) (unit_of c) c.history x y → FirstHolds c x y 0x46
  letter_B : ¬ ArcI c.history x y → ¬ ArcD (conflict_of c) c.history x y → ¬ ArcF (conflict_of c) (unit_of c) c.history x y
      → ArcB (conflict_of c) (unit_of c) c.history x y → FirstHolds c x y 0x42

-- the letters are, for each arc of the cycle in turn, the one back to the first place last, the first that holds
pub record Lettered (c : Contents) (cycle letters : List ℕ) : Type 0 where
  pub many : length letters ≡ length cycle
  pub next : (i : ℕ) → suc i < length cycle → FirstHolds c (get_or cycle i 0) (get_or cycle (suc i) 0) (get_or letters i 0)
  pub back : FirstHolds c (get_or cycle (length cycle - 1) 0) (get_or cycle 0 0) (get_or letters (length cycle - 1) 0)

-- the line of a cycle: "cycle", a blank and a place for each, the line end
abbrev pub cycle_text : List ℕ → List ℕ
cycle_text cycle = 0x63 ∷ 0x79 ∷ 0x63 ∷ 0x6C ∷ 0x65 ∷ (each (λ x. 0x20 ∷ decimal x) cycle ++ 0x0A ∷ [])

-- the line of its arcs: "arcs", a blank and a letter for each, the line end
abbrev pub arcs_text : List ℕ → List ℕ
arcs_text letters = 0x61 ∷ 0x72 ∷ 0x63 ∷ 0x73 ∷ (each (λ x. 0x20 ∷ x ∷ []) letters ++ 0x0A ∷ [])

-- the text ends in the line of the cycle and, under it, that of its arcs
pub record ArcsUnder (c : Contents) (cycle text : List ℕ) : Type 0 where
  pub letters : List ℕ
  pub lettered : Lettered c cycle letters
  pub above : List ℕ
  pub ends : text ≡ above ++ (cycle_text cycle ++ arcs_text letters)

-- ---- the statement

pub record ArcsByName : Type 0 where
  -- The arc test now answers with all of I, D, F and B that hold there,
  pub all_named : (s : List ℕ) (c : Contents) → read s ≡ accepted c → (x y : ℕ) (r : Named) → NamedAs (arcs_from x y) s r → (w : ArcNames) × (r ≡ Ok w) × AllThatHold c x y w
  -- for C by the sum of I 1, D 2, F 4 and B 8,
  pub deck_named : (s : List ℕ) (c : Contents) → read s ≡ accepted c → (x y : ℕ) (r : Answered) → NameCall (arcs_from x y) s r
      → (w : ArcNames) × (answered_numbers r ≡ value_of (names_value w)) × AllThatHold c x y w
  -- where it said only yes or no: it said yes exactly where it now has a name, and the book was refused with the same number and place;
  pub yes_before : (s : List ℕ) (x y : ℕ) (r : Named) (t : Tested) → NamedAs (arcs_from x y) s r → TestedAs (ArcFrom x y) s t → (t ≡ Yes) ↔ ((named_numbers r).value ≢ 0)
  pub refused_before : (s : List ℕ) (x y : ℕ) (r : Named) (t : Tested) → NamedAs (arcs_from x y) s r → TestedAs (ArcFrom x y) s t
      → ((named_numbers r).number ≡ (tested_numbers t).number) × ((named_numbers r).place ≡ (tested_numbers t).place)
  pub deck_yes_before : (s : List ℕ) (x y : ℕ) (r t : Answered) → NameCall (arcs_from x y) s r → TestCall (ArcFrom x y) s t → ((answered_numbers t).value ≡ 1) ↔ ((answered_numbers r).value ≢ 0)
  pub deck_refused_before : (s : List ℕ) (x y : ℕ) (r t : Answered) → NameCall (arcs_from x y) s r → TestCall (ArcFrom x y) s t
      → ((answered_numbers r).number ≡ (answered_numbers t).number) × ((answered_numbers r).place ≡ (answered_numbers t).place)
  -- a place beyond the done steps has none.
  pub beyond : (s : List ℕ) (c : Contents) → read s ≡ accepted c → (x y : ℕ) (r : Named) → NamedAs (arcs_from x y) s r
      → (length c.history ≤ x) ⊎ (length c.history ≤ y) → (named_numbers r).value ≡ 0
  pub deck_beyond : (s : List ℕ) (c : Contents) → read s ≡ accepted c → (x y : ℕ) (r : Answered) → NameCall (arcs_from x y) s r
      → (length c.history ≤ x) ⊎ (length c.history ≤ y) → (answered_numbers r).value ≡ 0
  -- The cycle check and the judge use the new answer, their own answers being as before: a list is a cycle by it exactly if it was one,
  pub same_cycles : (c : Contents) (l : List ℕ) → CycleByNames c l ↔ CycleBefore l c
  -- the cycle check says of it what it said,
  pub checked_as_before : (s l : List ℕ) (r : Tested) → TestedAs (λ c. CycleByNames c l) s r ↔ TestedAs (CycleBefore l) s r
  pub deck_checked_as_before : (s l : List ℕ) (r : Answered) → TestCall (λ c. CycleByNames c l) s r ↔ TestCall (CycleBefore l) s r
  -- and the judge's cycle is one by it.
  pub judged_by_names : (s : List ℕ) (c : Contents) → read s ≡ accepted c → (order order' cycle cycle' : List ℕ) (r : JudgeAnswer) → step_limit ≤ length order → step_limit ≤ length cycle
      → BytesJudged order order' cycle cycle' s r → verdict_of r ≡ Ok Tangled → CycleByNames c (take (count_of r) cycle')
  pub deck_judged_by_names : (s : List ℕ) (c : Contents) → read s ≡ accepted c → (order order' cycle cycle' : List ℕ) (r : Judged) → step_limit ≤ length order → step_limit ≤ length cycle
      → JudgeCall s order order' cycle cycle' r → judged_numbers r ≡ value_of 2 → CycleByNames c (take r.count cycle')
  -- Under the cycle the program adds a line "arcs" with, for each arc in turn, the one back to the first place last, a blank and the first of I, D, F, B
  -- that holds.
  pub lettered : (s : List ℕ) (c : Contents) → read s ≡ accepted c → (text text' : List ℕ) (n : ℕ) (w : Reports (read s) text text' n)
      → (f : Findings) (cycle : List ℕ) (names : List ArcNames) → w.report ≡ accepted_with f → f.verdict ≡ tangled cycle names → ArcsUnder c cycle (take n text')
