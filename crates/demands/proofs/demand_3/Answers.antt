-- Demand 3 is part of what a replay promises, and all calls are made where no row applies.
use Rattle.claims.proofs.Refusals.{all_played}
use Rattle.demands.proofs.demand_3.Goals as goal

pub returns : goal.returns
returns c =
    let w = c.replay.ensures in
    record {
      all_made = λ d e none. all_played _ _ _ _ _ w d e none;
      holds = λ d e none. (w.calls_made d _ e (all_played _ _ _ _ _ w d e none)).demand;
    }
