-- The search finds the first place from `from` on that is ready, and those below are taken.
use borrow.Author.Rules.{rules}
use Rattle.std.proofs.lemmas.Iterator.{first_from_Range}
use Rattle.turns.specs.Inner.Turns.{ReadyIn}
use Rattle.turns.proofs.ReadyPlaces.{first_ready}
use Rattle.turns.proofs.ready.Goals as goal

pub returns : goal.returns
returns c =
    let a = c.args in
    first_ready a.arc.now a.taken.now a.from a.n c.requires.2 c.find.result
    (first_from_Range _ _ _ c.find.result (ReadyIn a.arc.now a.taken.now) (λ p. ¬ ReadyIn a.arc.now a.taken.now p) c.find.ensures.ran (λ p q k. search rules)
    (λ p q k. search rules))
