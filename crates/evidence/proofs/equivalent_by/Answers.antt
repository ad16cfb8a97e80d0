use Rattle.bits.specs.Table.{row_words}
use Rattle.evidence.proofs.OrderLaws.{other_length, agreed_none, agreed_all, agreed_more, no_next, not_after}
use Rattle.evidence.proofs.equivalent_by.Goals as goal

pub returns-then-l-history : goal.returns-then-l-history
returns-then-l-history c = search other_length

pub loop-r-init : goal.loop-r-init
loop-r-init c = agreed_none _ _ _ row_words

pub returns-then-not-within : goal.returns-then-not-within
returns-then-not-within c = search not_after

pub returns-in_default : goal.returns-in_default
returns-in_default c = search no_next

pub loop-r-preserved : goal.loop-r-preserved
loop-r-preserved c = search agreed_more

pub returns : goal.returns
returns c = search agreed_all
