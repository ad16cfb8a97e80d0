-- The text meets the contract of `report`, and such texts have the classes nested.
use Rattle.claims.proofs.Classes.{classes_nested}
use Rattle.demands.proofs.nested_text.Goals as goal

pub returns : goal.returns
returns c =
    let p = c.report.ensures in
    record {
      promised = p;
      nested = classes_nested.text _ _ _ _ p;
      any_cuts = λ s' o before' after' n' p'. classes_nested.text_any_cuts _ s' o _ _ before' after' _ n' p p';
    }
