-- Each answer meets its call's contract, of which demand 1 holds.
use Rattle.claims.proofs.Refusals.{demand_1}
use Rattle.demands.proofs.buffer_answers.Goals as goal

pub returns : goal.returns
returns c = record {
  judge_refusals = record { judged = demand_1.deck_judge _ _ _ _ _ _ c.deck_judge-judged.ensures };
  write_refusals = record { written = demand_1.deck_write _ _ _ _ c.deck_write-written.ensures };
  replay_refusals = record { replayed = demand_1.deck_replay _ _ _ _ _ c.deck_replay-replayed.ensures };
}
