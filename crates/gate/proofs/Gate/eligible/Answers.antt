-- `eligible` is right: its tests are the plain gate's 20, 21 and 22, in that order.
use Rattle.gate.proofs.Records.{refused_undeclared, refused_withdrawn, refused_kept, is_eligible}
use Rattle.gate.proofs.Gate.eligible.Goals as goal

pub returns-then-i-self : goal.returns-then-i-self
returns-then-i-self c = search refused_undeclared

pub returns-then-self-i-ne0 : goal.returns-then-self-i-ne0
returns-then-self-i-ne0 c = search refused_withdrawn

pub returns-then-self-i : goal.returns-then-self-i
returns-then-self-i c = search refused_kept

pub returns-else-self-i : goal.returns-else-self-i
returns-else-self-i c = search is_eligible
