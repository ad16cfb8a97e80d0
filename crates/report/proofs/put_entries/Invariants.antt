-- The loop puts the entries in turn, each behind those before.
use lib.ListN.{length, get_or}
use Rattle.buffer.specs.Each.{each}
use Rattle.buffer.proofs.InTurn.{Putting}
use Rattle.report.proofs.put_entries.Given as goal

abbrev pub invariant-loop-x : goal.invariant-loop-x
invariant-loop-x g l = Putting (each g.E.Entry.text l.list) (λ k. g.E.Entry.text (get_or l.list k 0)) (λ _. g.E.Entry.width) (length l.list) l.initial.out l.out l.at l.x-index
