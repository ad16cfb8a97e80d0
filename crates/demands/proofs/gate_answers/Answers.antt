-- Each answer meets its call's contract, of which demand 1 holds.
use borrow.Author.Rules.{rules}
use Rattle.plain.specs.Plain.{step, withdraw, take_back}
use Rattle.claims.proofs.Refusals.{demand_1}
use Rattle.demands.proofs.gate_answers.Goals as goal

pub returns : goal.returns
returns c =
    let a = c.args in
    record {
      stepped = demand_1.deck_call a.g c.called.result.gate (step a.run) c.called.result.answer (search rules);
      withdrawn = demand_1.deck_call a.g c.called-2.result.gate (withdraw a.run) c.called-2.result.answer (search rules);
      taken_back = demand_1.deck_call a.g c.called-3.result.gate (take_back a.run) c.called-3.result.answer (search rules);
    }
