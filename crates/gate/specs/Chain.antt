-- Calls made in turn on the one record: the first gets the record as it is in g, each other as the call before left it. Each link is what the
-- call promises of the record at entry and at exit.
use Rattle.std.specs.Prelude.{List, [], ◌∷◌}
use Rattle.plain.specs.Plain.{Call, Answer}
use Rattle.gate.specs.Gate.{Replied, answer_of, CalledAs}
use Rattle.gate.specs.declared.Gate.{Gate}

pub data Chain : Gate → List Call → List Answer → Gate → Type 0 where
  none : {g : Gate} → Chain g [] [] g
  link : {g h k : Gate} {x : Call} {xs : List Call} {bs : List Answer} (a : Replied) → CalledAs g x a h → Chain h xs bs k → Chain g (x ∷ xs) (answer_of a ∷ bs) k
