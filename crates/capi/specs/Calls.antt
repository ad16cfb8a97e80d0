-- What each call for C promises: the numbers of an answer that meets the promise of the call behind it.
use Rattle.std.specs.Prelude.{Result, ℕ, ◌≡◌, List}
use Rattle.book.specs.Format.{Contents, read}
use Rattle.book.specs.Numbers.{reading_numbers}
use Rattle.book.specs.declared.Refusal.{Refusal}
use Rattle.classes.specs.Tested.{Tested, tested_numbers, TestedAs}
use Rattle.names.specs.declared.ArcNames.{ArcNames}
use Rattle.evidence.specs.Named.{Named, named_numbers, NamedAs}
use Rattle.plain.specs.Plain.{Call}
use Rattle.gate.specs.Gate.{Replied, reply_numbers, opening_numbers, OpenedAs, CalledAs}
use Rattle.replay.specs.Replay.{played_numbers, Replays}
use Rattle.gate.specs.declared.Gate.{Gate}
use Rattle.gate.specs.declared.Opened.{Opened}
use Rattle.replay.specs.declared.Replayed.{Replayed}
use Rattle.judge.specs.Judged.{JudgeAnswer, verdict_numbers, count_of, verdict_of}
use Rattle.judge.specs.Judge.{BytesJudged}
use Rattle.islands.specs.Islands.{IslandsListed, IslandHistory, IslandJudged}
use Rattle.islands.specs.declared.IslandList.{IslandList}
use Rattle.islands.specs.declared.IslandSteps.{IslandSteps}
use Rattle.writer.specs.Written.{Written, written_numbers, Wrote}
use Rattle.capi.specs.Numbers.{answered, judged, opened_gate, listed_islands, listed_steps}
use Rattle.capi.specs.declared.Answered.{Answered}
use Rattle.capi.specs.declared.Judged.{Judged}
use Rattle.capi.specs.declared.OpenedGate.{OpenedGate}
use Rattle.capi.specs.declared.ListedIslands.{ListedIslands}
use Rattle.capi.specs.declared.ListedSteps.{ListedSteps}

pub record ReadCall (s : List ℕ) (r : Answered) : Type 0 where
  pub numbers : r ≡ answered (reading_numbers (read s))

pub record TestCall (P : Contents → Type 0) (s : List ℕ) (r : Answered) : Type 0 where
  pub tested : Tested
  pub promise : TestedAs P s tested
  pub numbers : r ≡ answered (tested_numbers tested)

-- the arc test, where N names the arcs of a book's contents
pub record NameCall (N : Contents → ArcNames) (s : List ℕ) (r : Answered) : Type 0 where
  pub named : Named
  pub promise : NamedAs N s named
  pub numbers : r ≡ answered (named_numbers named)

pub record JudgeCall (s order order' cycle cycle' : List ℕ) (r : Judged) : Type 0 where
  pub judgement : JudgeAnswer
  pub promise : BytesJudged order order' cycle cycle' s judgement
  pub numbers : r ≡ judged (verdict_numbers (verdict_of judgement)) (count_of judgement)

pub record WriteCall (s before after : List ℕ) (r : Answered) : Type 0 where
  pub written : Written
  pub promise : Wrote s before after written
  pub numbers : r ≡ answered (written_numbers written)

pub record OpenCall (s : List ℕ) (r : OpenedGate) : Type 0 where
  pub opened : Opened
  pub promise : OpenedAs (read s) opened
  pub numbers : r ≡ opened_gate (opening_numbers opened.answer) opened.gate

-- of the record at entry and at exit
pub record GateCall (x : Call) (g h : Gate) (r : Answered) : Type 0 where
  pub reply : Replied
  pub promise : CalledAs g x reply h
  pub numbers : r ≡ answered (reply_numbers reply)

pub record ReplayCall (s calls before after : List ℕ) (r : Answered) : Type 0 where
  pub replayed : Replayed
  pub promise : Replays s calls before after replayed
  pub numbers : r ≡ answered (played_numbers replayed.played)

pub record IslandsCall (s : List ℕ) (r : ListedIslands) : Type 0 where
  pub islands : Result IslandList Refusal
  pub promise : IslandsListed s islands
  pub numbers : r ≡ listed_islands islands

-- of the island whose smallest run is m
pub record IslandHistoryCall (s : List ℕ) (m : ℕ) (r : ListedSteps) : Type 0 where
  pub steps : Result IslandSteps Refusal
  pub promise : IslandHistory s m steps
  pub numbers : r ≡ listed_steps steps

pub record IslandJudgeCall (s : List ℕ) (m : ℕ) (order order' cycle cycle' : List ℕ) (r : Judged) : Type 0 where
  pub judgement : JudgeAnswer
  pub promise : IslandJudged order order' cycle cycle' s m judgement
  pub numbers : r ≡ judged (verdict_numbers (verdict_of judgement)) (count_of judgement)
