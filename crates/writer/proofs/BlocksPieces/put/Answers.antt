-- Nothing where the largest flag is 0, else the cuts of the block.
use Prim.Native.Nat.{◌*◌}
use mathlib.Core.Path.{sym}
use native.Mathlib.Omega.{arith}
use lib.ListN.{drop, length-take}
use Rattle.buffer.proofs.PutLaws.{put_is, room_is}
use Rattle.writer.specs.Inner.Groups.{block}
use Rattle.writer.proofs.GroupLaws.{none_put, cut_pieces, block_is}
use Rattle.writer.proofs.BlocksPieces.put.Goals as goal

pub returns-then-largest-eq0 : goal.returns-then-largest-eq0
returns-then-largest-eq0 c = rw (block_is 128 c.args.self.now.0.now c.args.i) at (none_put (c.args.i * 128) _ c.args.out.now _ c.largest.ensures c.if-largest-eq0.true)

pub put_pieces-requires : goal.put_pieces-requires
put_pieces-requires c =
    let cuts = c.args.self.now.0.now in
    let i = c.args.i in
    rw (block_is 128 cuts i)
    (omega (arith, c.requires.0, c.requires.1, length-take 128 (drop (i * 128) cuts)), room_is c.requires.2 (cut_pieces (i * 128) (block 128 cuts i)))

pub returns : goal.returns
returns c =
    let cuts = c.args.self.now.0.now in
    let i = c.args.i in
    put_is (rw (block_is 128 cuts i) at c.put_pieces.ensures) (sym (cut_pieces (i * 128) (block 128 cuts i)))
