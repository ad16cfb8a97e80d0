-- The pair is listed where one of its flags is set, and the sum of both is then not 0.
use Rattle.dependence.proofs.Flags.{listed_sum}
use Rattle.dependence.proofs.is_listed.Goals as goal

pub returns : goal.returns
returns c = search listed_sum
