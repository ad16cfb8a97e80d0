-- The row of the kind has the places of the kinds paired with it. Each turn keeps those that have the next digit of the position too, and those where exactly
-- one of the two touches homes.
use Rattle.book.specs.Book.{as_touch}
use Rattle.dependence.specs.Inner.Reading.{Finds}
use Rattle.dependence.proofs.Catalogue.{PairedAt}
use Rattle.dependence.proofs.conflicting.Given as goal

abbrev pub invariant-loop-k : goal.invariant-loop-k
invariant-loop-k l = Finds (PairedAt 0 (as_touch l.x) l.k) l.catalogue l.m
