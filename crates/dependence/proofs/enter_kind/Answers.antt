-- The place is added to the row of the kind exactly if the kinds are a listed pair.
use Rattle.dependence.proofs.Catalogue.{kind_joined, kind_left}
use Rattle.dependence.proofs.enter_kind.Goals as goal

pub returns-then-is_listed : goal.returns-then-is_listed
returns-then-is_listed c = search kind_joined

pub returns-else-is_listed : goal.returns-else-is_listed
returns-else-is_listed c = search kind_left
