-- `step_run` is right: each of its ways out is a rule of the plain gate for a step.
use Rattle.std.proofs.lemmas.Result.{err_from_is_err_and}
use Rattle.gate.proofs.Records.{step_refuses, step_left, step_keeps, step_tangles}
use Rattle.gate.proofs.Gate.step_run.Goals as goal

pub returns-in_err-eligible : goal.returns-in_err-eligible
returns-in_err-eligible c = let p = err_from_is_err_and c.from_residual.result c.from_residual.ensures.1 in rw (p.1, p.2) (step_refuses _ _ c.requires _ c.in_err-eligible.ensures)

pub with_done-longer-requires : goal.with_done-longer-requires
with_done-longer-requires c = step_left _ _ c.requires c.in_ok-eligible.ensures

pub returns-then-passes : goal.returns-then-passes
returns-then-passes c = search (step_keeps, c.in_ok-eligible.ensures)

pub returns : goal.returns
returns c = search (step_tangles, c.in_ok-eligible.ensures)
