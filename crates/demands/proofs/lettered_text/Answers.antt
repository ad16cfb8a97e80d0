-- The text meets the contract of `report`, and such texts have the first letter that holds.
use Rattle.claims.proofs.ArcsByName.{arcs_by_name}
use Rattle.demands.proofs.lettered_text.Goals as goal

pub returns : goal.returns
returns c =
    let p = c.report.ensures in
    record { promised = p; lettered = λ b e w cycle names. arcs_by_name.lettered _ b e _ _ _ p w cycle names }
