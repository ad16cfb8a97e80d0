-- The search finds the first place from `from` on that is not taken, and those below are taken.
use borrow.Author.Rules.{rules}
use Rattle.std.proofs.lemmas.Iterator.{first_from_Range}
use Rattle.turns.specs.Inner.Turns.{InSet}
use Rattle.turns.proofs.ReadyPlaces.{first_untaken}
use Rattle.turns.proofs.untaken.Goals as goal

pub returns : goal.returns
returns c =
    let t = c.args.taken.now in
    rw c.unwrap_or.ensures
    (first_untaken t c.args.from c.args.n c.requires.1 c.requires.2 c.find.result
    (first_from_Range _ _ _ c.find.result (λ p. ¬ InSet t p) (InSet t) c.find.ensures.ran (λ p q k. search rules) (λ p q k. search rules)))
