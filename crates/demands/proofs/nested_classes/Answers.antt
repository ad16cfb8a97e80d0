-- Each answer meets its call's contract, and answers that do are nested.
use native.Mathlib.Omega.{arith}
use Rattle.claims.proofs.Classes.{classes_nested}
use Rattle.demands.proofs.Readings.{answered}
use Rattle.demands.proofs.nested_classes.Goals as goal

pub returns : goal.returns
returns c =
    let answers = answered c.serial.ensures c.relatively_atomic.ensures c.relatively_serial.ensures c.conflict_serializable.ensures c.judge.ensures (omega arith) (omega arith) in
    record {
      promised = answers;
      nested = classes_nested.calls _ _ _ _ _ _ answers;
      any_cuts = λ s' o j w. classes_nested.calls_any_cuts _ s' o _ j answers.conflict_is w;
    }
