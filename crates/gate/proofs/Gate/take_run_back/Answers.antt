-- `take_run_back` is right: each of its ways out is a rule of the plain gate for a take-back.
use Rattle.gate.proofs.Records.{take_back_undeclared, take_back_again, take_back_done}
use Rattle.gate.proofs.Gate.take_run_back.Goals as goal

pub returns-then-i-self : goal.returns-then-i-self
returns-then-i-self c = search take_back_undeclared

pub returns-then-self-i-ne0 : goal.returns-then-self-i-ne0
returns-then-self-i-ne0 c = search take_back_again

pub returns : goal.returns
returns c = search take_back_done
