-- Each turn adds the place to the row of one more part.
use Rattle.book.specs.Book.{as_touch}
use Rattle.dependence.specs.Inner.Reading.{PartsEntered}
use Rattle.dependence.proofs.enter_parts.Given as goal

abbrev pub invariant-loop-k : goal.invariant-loop-k
invariant-loop-k l = PartsEntered l.initial.catalogue l.catalogue l.column l.r (as_touch l.x) l.k
