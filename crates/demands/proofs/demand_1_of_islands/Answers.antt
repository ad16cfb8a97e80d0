-- Each answer meets its call's contract, of which demand 1 holds.
use Rattle.claims.proofs.IslandRefusals.{demand_1_of_islands}
use Rattle.demands.proofs.demand_1_of_islands.Goals as goal

pub returns : goal.returns
returns c = record {
  island_refusals = record {
    listed = demand_1_of_islands.deck_islands _ _ c.deck_islands-islands.ensures;
    divided = demand_1_of_islands.deck_island_history _ _ _ c.deck_island_history-history.ensures;
  };
  island_judge_refusals = record { judged = demand_1_of_islands.deck_judge_island _ _ _ _ _ _ _ c.deck_judge_island-judged.ensures };
}
