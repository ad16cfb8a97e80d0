-- An arc leads to a place below n alone. Below it the two tests are the parts of `Follows`, since some name holds exactly where an arc leads.
use Rattle.evidence.proofs.CycleLaws.{beyond, repeated, followed}
use Rattle.evidence.proofs.follows.Goals.{then-x-g-via-then-x-g, then-x-g-via-else-x-g+then-has}
use Rattle.evidence.proofs.follows.Goals as goal

pub returns-then-x-g : goal.returns-then-x-g
returns-then-x-g c = elim c.then-x-g.branch [ then-x-g-via-then-x-g w ↦ search beyond | then-x-g-via-else-x-g+then-has w ↦ search repeated ]

pub returns : goal.returns
returns c = search followed
