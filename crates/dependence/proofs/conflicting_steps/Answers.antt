-- A transfer conflicts with what either of its touches conflicts with.
use Rattle.dependence.proofs.Touches.{single_low, first_low, second_low, both_find}
use Rattle.dependence.proofs.conflicting_steps.Goals as goal

pub touching-requires : goal.touching-requires
touching-requires c = search single_low

pub touching-m-requires : goal.touching-m-requires
touching-m-requires c = search first_low

pub touching-n-requires : goal.touching-n-requires
touching-n-requires c = search (second_low, first_low)

pub returns-in-Transfer : goal.returns-in-Transfer
returns-in-Transfer c = search both_find
