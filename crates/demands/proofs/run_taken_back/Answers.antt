-- The answer and the record meet the contract of `deck_take_back`, and such have the run left out.
use borrow.Author.Rules.{rules}
use Rattle.plain.specs.Plain.{take_back}
use Rattle.capi.specs.Calls.{GateCall}
use Rattle.claims.proofs.Refusals.{demand_1}
use Rattle.claims.proofs.TakeBack.{take_backs}
use Rattle.demands.proofs.run_taken_back.Goals as goal

pub returns : goal.returns
returns c =
    let p : GateCall (take_back c.args.run) c.args.g c.called.result.gate c.called.result.answer = search rules in
    record { refusals = demand_1.deck_call _ _ _ _ p; run_taken_back = λ y d n. take_backs.deck_answered_so _ _ _ _ y d n p }
