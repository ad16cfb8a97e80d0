use native.Mathlib.Omega.{arith}
use Rattle.islands.proofs.Naming.{own_up_to, book_names}
use Rattle.islands.proofs.Listing.{own_all}
use Rattle.islands.proofs.names_of.Goals as goal

pub loop-r-init : goal.loop-r-init
loop-r-init c = own_up_to _ _ _ _ (own_all _ _ c.loop-k.invariant (omega arith))

pub returns : goal.returns
returns c = search book_names
