-- The loop puts each run in turn; base is the number of steps of the runs before it.
use mathlib.Core.Path.{◌≡◌}
use lib.ListN.{length, take}
use Rattle.theory.specs.Lists.{sum}
use Rattle.buffer.proofs.InTurn.{Putting}
use Rattle.book.specs.Render.{run_commands}
use Rattle.writer.specs.Inner.Groups.{bytes_of, runs_divided}
use Rattle.writer.proofs.GroupLaws.{run_piece}
use Rattle.writer.proofs.put_runs.Given as goal

abbrev pub invariant-loop-r : goal.invariant-loop-r
invariant-loop-r l =
    let all = bytes_of (run_commands 0 (runs_divided (length l.lengths) l.lengths l.steps)) in
    let run = run_piece l.lengths l.steps in
    Putting all run (λ k. length (run k)) (length l.lengths) l.initial.out l.out l.at l.r × (l.base ≡ sum (take l.r l.lengths))
