-- The pieces put are the commands of the flagged cuts, block by block.
use Prim.Native.Nat.{◌/◌}
use mathlib.Core.Path.{sym}
use native.Mathlib.Omega.{arith}
use lib.ListN.{length}
use Rattle.buffer.proofs.PutLaws.{put_is, room_is}
use Rattle.writer.proofs.GroupLaws.{cut_blocks}
use Rattle.writer.proofs.put_cuts.Goals as goal

pub put_pieces-requires : goal.put_pieces-requires
put_pieces-requires c =
    let cuts = c.args.cuts.now in
    (c.requires.0, room_is c.requires.1 (cut_blocks 128 cuts (length cuts / 128) (omega (arith, c.requires.0))))

pub returns : goal.returns
returns c =
    let cuts = c.args.cuts.now in
    put_is c.put_pieces.ensures (sym (cut_blocks 128 cuts (length cuts / 128) (omega (arith, c.requires.0))))
