-- Each way out is one row of the format's table of tests: the tests before it hold, and its own fails, or all hold.
use Rattle.reader.proofs.Commands.{step_late, step_early, step_kind, step_long, step_many, step_on}
use Rattle.reader.proofs.Place.step.Goals as goal
use Rattle.reader.proofs.Place.step.Goals.{then-self-gt1-via-then-self-gt1, then-self-gt1-via-else-self-gt1+then-self-eq0}

pub returns-then-self-gt1 : goal.returns-then-self-gt1
returns-then-self-gt1 c = elim c.then-self-gt1.branch [
  | then-self-gt1-via-then-self-gt1 w ↦ search step_late
  | then-self-gt1-via-else-self-gt1+then-self-eq0 w ↦ search step_early
]

pub returns-then-not-kinds_low : goal.returns-then-not-kinds_low
returns-then-not-kinds_low c = search step_kind

pub returns-then-wide-ge-RUN_STEPS : goal.returns-then-wide-ge-RUN_STEPS
returns-then-wide-ge-RUN_STEPS c = search step_long

pub returns-then-self : goal.returns-then-self
returns-then-self c = search step_many

pub returns : goal.returns
returns c = search step_on
