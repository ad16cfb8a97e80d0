-- The search finds the first place that is of run r and not taken.
use borrow.Author.Rules.{rules}
use Rattle.std.proofs.lemmas.Iterator.{first_from_Range}
use Rattle.evidence.proofs.NextLaws.{Left, NotLeft, next_first}
use Rattle.evidence.proofs.next_step.Goals as goal

pub returns : goal.returns
returns c =
    let h = c.args.history.now in
    let t = c.args.taken.now in
    next_first h t c.args.r c.find.result
    (first_from_Range _ _ _ c.find.result (Left h t c.args.r) (NotLeft h t c.args.r) c.find.ensures.ran (λ p q k. search rules)
    (λ p q k. search rules))
