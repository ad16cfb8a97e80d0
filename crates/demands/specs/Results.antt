-- The demands, that the classes are nested, the names of arcs, the one pass over a history, a run taken back, and a book's islands, of what the functions of
-- this crate return or leave in the tables lent to them: the results of the public calls, or answers as these promise them.
use Rattle.std.specs.Prelude.{Ok, ℕ, ◌*◌, ◌/◌, ◌≤◌, ◌<◌, ◌≡◌, ◌↔◌, Bool, true, false, List, [], ◌∷◌, ◌++◌, length, get_or, take}
use Rattle.bits.specs.Table.{row_words}
use Rattle.buffer.specs.Put.{Put}
use Rattle.theory.specs.History.{count}
use Rattle.theory.specs.Deck.{Step, step_of}
use Rattle.theory.specs.Answers.{Answers}
use Rattle.book.specs.Format.{Contents, accepted, run_limit, step_limit, read}
use Rattle.book.specs.Numbers.{value_of}
use Rattle.judge.specs.Judged.{JudgeAnswer, verdict_of}
use Rattle.judge.specs.declared.Verdict.TheVariants.{Passed}
use Rattle.plain.specs.Plain.{step, withdraw, take_back, In}
use Rattle.gate.specs.Gate.{book_of, state_of, Sound}
use Rattle.plain.specs.Demand.{Demand3}
use Rattle.replay.specs.Replay.{calls_of, answers_in}
use Rattle.gate.specs.declared.Gate.{Gate}
use Rattle.replay.specs.declared.Replayed.{Replayed}
use Rattle.names.specs.Names.{names_value}
use Rattle.names.specs.declared.ArcNames.{ArcNames}
use Rattle.report.specs.Text.{Findings, tangled, refused_at, accepted_with, text_of}
use Rattle.report.specs.Reporting.{Reports}
use Rattle.capi.specs.Numbers.{answered}
use Rattle.capi.specs.declared.Answered.{Answered}
use Rattle.capi.specs.declared.Judged.{Judged}
use Rattle.capi.specs.declared.ListedIslands.{ListedIslands}
use Rattle.capi.specs.declared.ListedSteps.{ListedSteps}
use Rattle.dependence.specs.Dependence.{Blank, InRange}
use Rattle.claims.specs.OnePass.{Fed, RowsAfter}
use Rattle.table.specs.BookTable.{BookRow, NoRow}
use Rattle.claims.specs.Table.{JudgeRow, WriterRow, IslandRow, IslandJudgeRow, GateRow, ReplayRow}
use Rattle.claims.specs.Demands.{TurnsAway, BuffersUnchanged, WithoutRuns, answered_numbers, judged_numbers, opened_numbers, island_numbers, step_numbers, WithoutIslands, WithoutSteps, Demand2}
use Rattle.claims.specs.Classes.{OtherCuts, JudgeAnswered, ClassesAnswered, DeckJudgeAnswered, DeckClassesAnswered, SaysYes, SaysPassed, TextSaysPassed, NestedCalls, NestedDeckCalls, NestedFindings}
use Rattle.claims.specs.ArcsByName.{AllThatHold, ArcsUnder}
use Rattle.claims.specs.TakeBack.{RunTakenBack}
use Rattle.claims.specs.Islands.{Partition, DeckIslandAnswered}
use Rattle.demands.specs.declared.BookAnswers.{BookAnswers}
use Rattle.demands.specs.declared.DeckCalled.{DeckCalled}
use Rattle.demands.specs.declared.ClassAnswers.{ClassAnswers}
use Rattle.demands.specs.declared.GateAnswers.{GateAnswers}
use Rattle.demands.specs.declared.WholeAnswers.{WholeAnswers}
use Rattle.classes.specs.Tested.{Tested, Yes}

-- the book's rows are this answer's refusals
abbrev pub ByBook : List ℕ → Answered → Type 0
ByBook s r = TurnsAway (BookRow s) (answered_numbers r) (Unit {0})

-- demand 1 of the calls that read a book and change nothing
pub record BookRefusals (s : List ℕ) (r : BookAnswers) : Type 0 where
  pub read_book : ByBook s r.read_book
  pub serial : ByBook s r.serial
  pub atomic : ByBook s r.atomic
  pub relserial : ByBook s r.relserial
  pub conflict : ByBook s r.conflict
  pub check_order : ByBook s r.check_order
  pub check_cycle : ByBook s r.check_cycle
  pub arc : ByBook s r.arc
  pub opened : TurnsAway (BookRow s) (opened_numbers r.opened) (WithoutRuns r.opened.gate)

-- of the judge, the writer, the replay and the program's text, with the lent bytes before and after the call
pub record JudgeRefusals (s order order' cycle cycle' : List ℕ) (r : Judged) : Type 0 where
  pub judged : TurnsAway (JudgeRow s order cycle) (judged_numbers r) (BuffersUnchanged order order' cycle cycle' r.count)

pub record WriteRefusals (s out out' : List ℕ) (r : Answered) : Type 0 where
  pub written : TurnsAway (WriterRow s out) (answered_numbers r) (out' ≡ out)

pub record ReplayRefusals (s calls answers answers' : List ℕ) (r : Answered) : Type 0 where
  pub replayed : TurnsAway (ReplayRow s calls answers) (answered_numbers r) (answers' ≡ answers)

pub record TextRefusals (s text text' : List ℕ) (n : ℕ) : Type 0 where
  pub refused_text : (m place : ℕ) → BookRow s m place → Put (text_of (refused_at m place)) text text' n
  pub accepted_text : NoRow s → (w : Findings) × Put (text_of (accepted_with w)) text text' n

-- of step, withdraw and take back for C on any record
pub record GateRefusals (g : Gate) (run : ℕ) (r : GateAnswers) : Type 0 where
  pub stepped : TurnsAway (GateRow g (step run)) (answered_numbers r.stepped.answer) (r.stepped.gate ≡ g)
  pub withdrawn : TurnsAway (GateRow g (withdraw run)) (answered_numbers r.withdrawn.answer) (r.withdrawn.gate ≡ g)
  pub taken_back : TurnsAway (GateRow g (take_back run)) (answered_numbers r.taken_back.answer) (r.taken_back.gate ≡ g)

-- of the islands and an island's history for C
pub record IslandRefusals (s : List ℕ) (run : ℕ) (islands : ListedIslands) (history : ListedSteps) : Type 0 where
  pub listed : TurnsAway (BookRow s) (island_numbers islands) (WithoutIslands islands)
  pub divided : TurnsAway (IslandRow s run) (step_numbers history) (WithoutSteps history)

-- of an island judged
pub record IslandJudgeRefusals (s : List ℕ) (run : ℕ) (order order' cycle cycle' : List ℕ) (r : Judged) : Type 0 where
  pub judged : TurnsAway (IslandJudgeRow s run order cycle) (judged_numbers r) (BuffersUnchanged order order' cycle cycle' r.count)

-- demand 2 of a judgement, where the book is accepted and the buffers are as long as the judge asks
pub record Demand2Of (s order order' cycle cycle' : List ℕ) (r : JudgeAnswer) : Type 0 where
  pub holds : (c : Contents) → read s ≡ accepted c → step_limit ≤ length order → step_limit ≤ length cycle → Demand2 c order' cycle' r

-- demand 3 of a replay, over the answers in the buffer and the record, where the book is accepted and no row turns the list or the buffer away: then all
-- calls are made
pub record Demand3Of (s calls answers answers' : List ℕ) (r : Replayed) : Type 0 where
  pub all_made : (c : Contents) → read s ≡ accepted c → ((n place : ℕ) → ¬ ReplayRow s calls answers n place) → r.played ≡ Ok (length (calls_of calls))
  pub holds : (c : Contents) → read s ≡ accepted c → ((n place : ℕ) → ¬ ReplayRow s calls answers n place)
      → Demand3 s c (calls_of calls) (answers_in (take (2 * length (calls_of calls)) answers')) (state_of r.gate)

-- ---- document 02, change 2: the classes of one book are nested, under any cuts

-- of the answers that the calls promise
pub record NestedAnswers (s : List ℕ) (r : ClassAnswers Tested JudgeAnswer) : Type 0 where
  pub promised : ClassesAnswered s r.serial r.atomic r.relserial r.conflict r.judged
  pub nested : NestedCalls r.serial r.atomic r.relserial r.conflict r.judged
  pub any_cuts : (s' : List ℕ) → OtherCuts s s' → (j : JudgeAnswer) → JudgeAnswered s' j → r.conflict ≡ Yes → verdict_of j ≡ Ok Passed

-- the same of the calls for C
pub record NestedDeckAnswers (s : List ℕ) (r : ClassAnswers Answered Judged) : Type 0 where
  pub promised : DeckClassesAnswered s r.serial r.atomic r.relserial r.conflict r.judged
  pub nested : NestedDeckCalls r.serial r.atomic r.relserial r.conflict r.judged
  pub any_cuts : (s' : List ℕ) → OtherCuts s s' → (j : Judged) → DeckJudgeAnswered s' j → SaysYes r.conflict → SaysPassed j

-- the same of the program's text, in the buffer before and after the call
pub record NestedText (s before after : List ℕ) (n : ℕ) : Type 0 where
  pub promised : Reports (read s) before after n
  pub nested : (w : Findings) → promised.report ≡ accepted_with w → NestedFindings w
  pub any_cuts : (s' : List ℕ) → OtherCuts s s' → (before' after' : List ℕ) (n' : ℕ) (p' : Reports (read s') before' after' n') (w w' : Findings)
      → promised.report ≡ accepted_with w → p'.report ≡ accepted_with w' → w.conflict ≡ true → TextSaysPassed w'.verdict

-- ---- document 02, changes 3 and 6: one pass over the history

-- where x is to be read as place q, the next step of run r, by tables that were fed the steps of l
pub record StepFed (pairs catalogue catalogue' seconds seconds' dep dep' : List ℕ) (q r : ℕ) (x : Step) (answer : Bool) : Type 0 where
  -- the answer says whether there is such a place, run and kind of each touch; if not, nothing changes;
  pub in_range : Answers (InRange q r x) answer
  pub same_catalogue : answer ≡ false → catalogue' ≡ catalogue
  pub same_seconds : answer ≡ false → seconds' ≡ seconds
  pub same_rows : answer ≡ false → dep' ≡ dep
  -- if so, they were fed one step more, so that the next call may follow,
  pub fed : answer ≡ true → (runs : List (List Step)) (h c s d l : List ℕ) → length l ≡ q → step_of runs r (count l r) ≡ x
      → Fed pairs runs h c s d l catalogue seconds dep → Fed pairs runs h c s d (l ++ r ∷ []) catalogue' seconds' dep'
  -- the rows so far and to come are as the one pass promises, and earlier ones are unchanged
  pub each_step : answer ≡ true → (runs : List (List Step)) (c s d l : List ℕ) → length l ≡ q → step_of runs r (count l r) ≡ x → Blank c → Blank s → Blank d
      → Fed pairs runs [] c s d l catalogue seconds dep → RowsAfter pairs runs (l ++ r ∷ []) dep'
  pub unchanged : answer ≡ true → (runs : List (List Step)) (h c s d l : List ℕ) → length l ≡ q → step_of runs r (count l r) ≡ x
      → Fed pairs runs h c s d l catalogue seconds dep → (i : ℕ) → i / row_words < length h → get_or dep' i 0 ≡ get_or d i 0

-- ---- document 02, change 5: arcs by name

-- all of I, D, F and B that hold, by their sum; of a refused book, the reader's numbers
pub record ArcsNamed (s : List ℕ) (from to : ℕ) (r : Answered) : Type 0 where
  pub refusals : ByBook s r
  pub named : (c : Contents) → read s ≡ accepted c → (w : ArcNames) × (answered_numbers r ≡ value_of (names_value w)) × AllThatHold c from to w

-- the letters under a cycle, in the buffer before and after the call
pub record TextLettered (s before after : List ℕ) (n : ℕ) : Type 0 where
  pub promised : Reports (read s) before after n
  pub lettered : (c : Contents) → read s ≡ accepted c → (w : Findings) (cycle : List ℕ) (names : List ArcNames) → promised.report ≡ accepted_with w → w.verdict ≡ tangled cycle names
      → ArcsUnder c cycle (take n after)

-- ---- document 02, change 7: a run taken back

-- refused as the table says; else, of a sound record g, a declared run that was not taken back leaves the kept list
pub record TakenBackAs (g : Gate) (run : ℕ) (r : DeckCalled) : Type 0 where
  pub refusals : TurnsAway (GateRow g (take_back run)) (answered_numbers r.answer) (r.gate ≡ g)
  pub run_taken_back : Sound g → run < length (book_of g).runs → ¬ In run (state_of g).taken_back → (r.answer ≡ answered (value_of 0)) × RunTakenBack run g r.gate

-- ---- document 02, change 8: islands

-- the verdict of some judgement of the island whose smallest run is m
pub record VerdictOf (s : List ℕ) (m verdict : ℕ) : Type 0 where
  pub judged : Judged
  pub answered : DeckIslandAnswered s m judged
  pub is : verdict ≡ judged.verdict

-- of each of the first `count` of the list that it has room for
pub record VerdictsOf (s list : List ℕ) (count : ℕ) (verdicts : List ℕ) : Type 0 where
  pub each : (i : ℕ) → i < run_limit → i < count → VerdictOf s (get_or list i 0) (get_or verdicts i 0)

-- of an accepted book: its islands partition its runs, and it is passed exactly when each of them is
pub record WholeByIslands (s : List ℕ) (r : WholeAnswers) : Type 0 where
  pub partition : (c : Contents) → read s ≡ accepted c → Partition c r.islands.runs r.islands.smallest r.islands.count r.islands.list
  pub whole : (c : Contents) → read s ≡ accepted c → SaysPassed r.judged ↔ ((i : ℕ) → i < r.islands.count → get_or r.verdicts i 0 ≡ 1)
