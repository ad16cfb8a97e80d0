-- `withdraw_run` is right: each of its ways out is a rule of the plain gate for a withdrawal.
use Rattle.std.proofs.lemmas.Result.{err_from_is_err_and}
use Rattle.gate.proofs.Records.{withdraw_refuses, flag_low, withdraw_done}
use Rattle.gate.proofs.Gate.withdraw_run.Goals as goal

pub returns-in_err-eligible : goal.returns-in_err-eligible
returns-in_err-eligible c = let p = err_from_is_err_and c.from_residual.result c.from_residual.ensures.1 in rw (p.1, p.2) (withdraw_refuses _ _ c.requires _ c.in_err-eligible.ensures)

pub bounds-self-r : goal.bounds-self-r
bounds-self-r c = flag_low _ _ c.requires c.in_ok-eligible.ensures

pub returns : goal.returns
returns c = withdraw_done _ _ c.requires c.in_ok-eligible.ensures
