-- Where no place has a second touch, the first ones are all; else the places of both are joined.
use Rattle.dependence.proofs.Catalogue.{touching_first, touching_both}
use Rattle.dependence.proofs.touching.Goals as goal

pub returns-then-within : goal.returns-then-within
returns-then-within c = search touching_first

pub returns : goal.returns
returns c = search touching_both
