-- The arcs behind the verdict and the cycle.
use native.Mathlib.Omega.{arith}
use Rattle.report.proofs.WithinLaws.{behind_within, within_is}
use Rattle.report.proofs.TextLaws.{tangled_text}
use Rattle.report.proofs.put_tangled.Goals as goal

pub returns : goal.returns
returns c = within_is (behind_within c.put_list-n.ensures c.put_list-m.ensures) (tangled_text c.args.places.now c.args.values.now) (omega (arith, c.requires.0, c.requires.1))
