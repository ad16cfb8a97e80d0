-- The pieces put are the commands of the done steps, in order.
use mathlib.Core.Path.{sym}
use Rattle.buffer.proofs.PutLaws.{put_is, room_is}
use Rattle.writer.proofs.GroupLaws.{done_pieces}
use Rattle.writer.proofs.put_history.Goals as goal

pub put_pieces-requires : goal.put_pieces-requires
put_pieces-requires c = (tt, room_is c.requires (done_pieces c.args.history.now))

pub returns : goal.returns
returns c = put_is c.put_pieces.ensures (sym (done_pieces c.args.history.now))
