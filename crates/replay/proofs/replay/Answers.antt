-- `replay` is right: its tests are those of `played_by` in their order, and the chain of calls that `play` made has demand 3.
use Rattle.replay.proofs.Replays.{replay_short, replay_room, replay_done}
use Rattle.replay.proofs.replay.Goals as goal

pub play-requires-clause-room : goal.play-requires-clause-room
play-requires-clause-room c = search (replay_room, c.in_default.ensures)

pub returns-then-answers-calls : goal.returns-then-answers-calls
returns-then-answers-calls c = search (replay_short, c.in_default.ensures)

pub returns-else-answers-calls : goal.returns-else-answers-calls
returns-else-answers-calls c = search (replay_done, c.in_default.ensures)
