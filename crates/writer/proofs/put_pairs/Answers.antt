-- The pieces put are the commands of the flagged pairs.
use mathlib.Core.Path.{sym}
use Rattle.buffer.proofs.PutLaws.{put_is, room_is}
use Rattle.writer.proofs.GroupLaws.{pair_pieces}
use Rattle.writer.proofs.put_pairs.Goals as goal

pub put_pieces-requires : goal.put_pieces-requires
put_pieces-requires c = (c.requires.0, room_is c.requires.1 (pair_pieces c.args.pairs.now))

pub returns : goal.returns
returns c = put_is c.put_pieces.ensures (sym (pair_pieces c.args.pairs.now))
