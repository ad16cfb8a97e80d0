-- The judgement meets the judge's contract, of which demand 2 holds.
use Rattle.claims.proofs.Demands.{demand_2}
use Rattle.demands.proofs.demand_2.Goals as goal

pub returns : goal.returns
returns c = record { holds = λ d e a b. demand_2 _ d e _ _ _ _ _ a b c.judge.ensures }
