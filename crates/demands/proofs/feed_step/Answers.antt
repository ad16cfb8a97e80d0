-- The call does what it promises, so the tables were fed one step more.
use Rattle.demands.proofs.Feeding.{step_fed}
use Rattle.demands.proofs.feed_step.Goals as goal

pub returns : goal.returns
returns c = search step_fed
