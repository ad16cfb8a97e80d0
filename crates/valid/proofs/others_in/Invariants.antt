-- `others_in` is right: each turn adds 1 where the number is no code of a step, else 0.
use Rattle.book.specs.Book.{code_limit}
use Rattle.valid.proofs.Scans.{CountedTo}
use Rattle.valid.proofs.others_in.Given as goal

abbrev pub invariant-loop-x : goal.invariant-loop-x
invariant-loop-x l = CountedTo l.s code_limit 0 l.x-index l.n
