-- The loop puts the pieces in turn.
use lib.ListN.{length}
use Rattle.buffer.specs.Parts.{parts}
use Rattle.buffer.proofs.InTurn.{Putting}
use Rattle.buffer.proofs.put_pieces.Given as goal

abbrev pub invariant-loop-i : goal.invariant-loop-i
invariant-loop-i g l =
    let f = g.P.Pieces.piece l.pieces in
    let n = g.P.Pieces.count l.pieces in
    Putting (parts f n) f (λ k. length (f k)) n l.initial.out l.out l.at l.i
