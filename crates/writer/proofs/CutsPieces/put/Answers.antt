-- Nothing where the flag is 0, else the bytes of the command.
use Rattle.writer.proofs.GroupLaws.{flag_clear, flag_room, flag_put}
use Rattle.writer.proofs.CutsPieces.put.Goals as goal

pub returns-then-self-i-eq0 : goal.returns-then-self-i-eq0
returns-then-self-i-eq0 c = flag_clear _ _ _ c.if-self-i-eq0.true

pub put_bytes-requires : goal.put_bytes-requires
put_bytes-requires c = flag_room _ _ _ c.if-self-i-eq0.false c.requires.2

pub returns : goal.returns
returns c = flag_put _ _ _ _ _ c.if-self-i-eq0.false c.put_bytes.ensures
