-- The structs that the calls for C answer (include/deck.h), of the numbers that book Numbers gives for an answer.
use Rattle.std.specs.Prelude.{Result, Ok, Err, ℕ, replicate}
use Rattle.book.specs.Format.{run_limit, step_limit}
use Rattle.book.specs.Numbers.{Numbers, answer_numbers}
use Rattle.book.specs.declared.Refusal.{Refusal}
use Rattle.gate.specs.declared.Gate.{Gate}
use Rattle.islands.specs.declared.IslandList.{IslandList}
use Rattle.islands.specs.declared.IslandSteps.{IslandSteps}
use Rattle.capi.specs.declared.Answered.{Answered}
use Rattle.capi.specs.declared.Judged.{Judged}
use Rattle.capi.specs.declared.OpenedGate.{OpenedGate}
use Rattle.capi.specs.declared.ListedIslands.{ListedIslands}
use Rattle.capi.specs.declared.ListedSteps.{ListedSteps}

abbrev pub answered : Numbers → Answered
answered n = record { number = n.number; place = n.place; value = n.value }

-- a verdict's value, and the count
abbrev pub judged : Numbers → ℕ → Judged
judged n count = record { number = n.number; place = n.place; verdict = n.value; count = count }

-- an opening's number and place, and the gate
abbrev pub opened_gate : Numbers → Gate → OpenedGate
opened_gate n g = record { number = n.number; place = n.place; gate = g }

-- what a call answers, or d where it is refused
abbrev pub answered_or : {A : Type 0} → A → Result A Refusal → A
answered_or d (Ok x) = x
answered_or d (Err e) = d

-- a list of islands, and a history, whose every number is 0
abbrev pub no_islands : IslandList
no_islands = record { smallest = replicate run_limit 0; list = replicate run_limit 0; runs = 0; count = 0 }

abbrev pub no_steps : IslandSteps
no_steps = record { history = replicate step_limit 0; count = 0 }

-- the numbers of a list of islands, and its arrays
abbrev pub listed_islands : Result IslandList Refusal → ListedIslands
listed_islands x = record {
  number = (answer_numbers x).number;
  place = (answer_numbers x).place;
  runs = (answered_or no_islands x).runs;
  count = (answered_or no_islands x).count;
  smallest = (answered_or no_islands x).smallest;
  list = (answered_or no_islands x).list;
}

-- the numbers of an island's history, and its array
abbrev pub listed_steps : Result IslandSteps Refusal → ListedSteps
listed_steps x = record {
  number = (answer_numbers x).number;
  place = (answer_numbers x).place;
  count = (answered_or no_steps x).count;
  history = (answered_or no_steps x).history;
}
