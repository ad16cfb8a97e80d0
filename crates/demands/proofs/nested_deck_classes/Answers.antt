-- Each answer meets its call's contract, and answers that do are nested.
use native.Mathlib.Omega.{arith}
use Rattle.claims.proofs.Classes.{classes_nested}
use Rattle.demands.proofs.Readings.{deck_answered}
use Rattle.demands.proofs.nested_deck_classes.Goals as goal

pub returns : goal.returns
returns c =
    let answers = deck_answered c.deck_serial.ensures c.deck_atomic.ensures c.deck_relserial.ensures c.deck_conflict.ensures c.deck_judge.ensures (omega arith) (omega arith) in
    record {
      promised = answers;
      nested = classes_nested.deck_calls _ _ _ _ _ _ answers;
      any_cuts = λ s' o j w. classes_nested.deck_any_cuts _ s' o _ j answers.conflict_is w;
    }
