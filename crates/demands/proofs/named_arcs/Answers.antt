-- The answer meets the contract of `deck_arc`, and such answers have all names that hold.
use Rattle.claims.proofs.Refusals.{demand_1}
use Rattle.claims.proofs.ArcsByName.{arcs_by_name}
use Rattle.demands.proofs.named_arcs.Goals as goal

pub returns : goal.returns
returns c =
    let p = c.deck_arc.ensures in
    record { refusals = demand_1.deck_name _ _ _ p; named = λ b e. arcs_by_name.deck_named _ b e _ _ _ p }
