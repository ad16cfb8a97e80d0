-- The row of the run is added to the places that the step conflicts with.
use Rattle.dependence.proofs.Catalogue.{linked_all}
use Rattle.dependence.proofs.linked_row.Goals as goal

pub returns : goal.returns
returns c = search linked_all
