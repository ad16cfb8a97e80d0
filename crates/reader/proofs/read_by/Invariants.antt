-- The invariant `Rest` says that the format, reading on from what the tables and the progress mean, comes to the
-- outcome of all commands.
-- Each arm stores what its command says, which is what the format adds; the offset grows, so the loop ends.
use mathlib.Core.Path.{◌≡◌}
use lib.ListN.{length}
use Prim.Native.Nat.{◌-◌}
use Rattle.reader.proofs.Loop.{Rest}
use Rattle.reader.proofs.read_by.Given as goal

abbrev pub invariant-loop-command : goal.invariant-loop-command
invariant-loop-command l = Rest l.initial.p.rules l.s l.book l.reader.at l.p × (l.reader.src.now ≡ l.s)

abbrev pub decreases-loop-command : goal.decreases-loop-command
decreases-loop-command l = length l.s - l.reader.at
