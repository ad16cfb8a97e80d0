-- The text meets the contract of `report`, of which demand 1 holds.
use Rattle.claims.proofs.Refusals.{demand_1}
use Rattle.demands.proofs.text_answer.Goals as goal

pub returns : goal.returns
returns c = record {
  refused_text = demand_1.report_refused _ _ _ _ c.report.ensures;
  accepted_text = demand_1.report_accepted _ _ _ _ c.report.ensures;
}
