-- The places of one run can only have an I arc, those of two runs any other. The first and the last step of a unit stand for all of it.
use native.Mathlib.Omega.{arith}
use Rattle.names.proofs.NameLaws.{beyond, own_names, across_names}
use Rattle.names.proofs.arc_names.Goals.{then-x-g-via-then-x-g, then-x-g-via-else-x-g+then-y-g}
use Rattle.names.proofs.arc_names.Goals as goal

pub returns-then-x-g : goal.returns-then-x-g
returns-then-x-g c = beyond _ _ _ _ c.default.ensures (elim c.then-x-g.branch [ then-x-g-via-then-x-g w ↦ λ i j. omega arith | then-x-g-via-else-x-g+then-y-g w ↦ λ i j. omega arith ])

pub returns-then-r-s : goal.returns-then-r-s
returns-then-r-s c = search own_names

pub returns : goal.returns
returns c = search across_names
