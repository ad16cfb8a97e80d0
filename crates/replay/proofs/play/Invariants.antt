-- `play` is right: each turn adds a link to the chain of calls, and its answer's two bytes to the buffer.
use lib.ListN.{take}
use Rattle.replay.specs.Replay.{calls_of}
use Rattle.replay.specs.Inner.Calls.{Plays}
use Rattle.replay.proofs.play.Given as goal

abbrev pub invariant-loop-i : goal.invariant-loop-i
invariant-loop-i l = Plays l.fn.g (take l.i (calls_of l.calls)) l.fn.answers l.answers l.g
