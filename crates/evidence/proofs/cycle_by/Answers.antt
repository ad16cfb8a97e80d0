use Rattle.evidence.proofs.CycleLaws.{too_short, too_long, walked_none, walked_all, not_followed, walked_more}
use Rattle.evidence.proofs.cycle_by.Goals.{then-len-lt2-via-then-len-lt2, then-len-lt2-via-else-len-lt2+then-len-g}
use Rattle.evidence.proofs.cycle_by.Goals as goal

pub returns-then-len-lt2 : goal.returns-then-len-lt2
returns-then-len-lt2 c = elim c.then-len-lt2.branch [ then-len-lt2-via-then-len-lt2 w ↦ search too_short | then-len-lt2-via-else-len-lt2+then-len-g w ↦ search too_long ]

pub loop-place-init : goal.loop-place-init
loop-place-init c = search walked_none

pub returns-then-not-follows : goal.returns-then-not-follows
returns-then-not-follows c = search not_followed

pub loop-place-preserved : goal.loop-place-preserved
loop-place-preserved c = search walked_more

pub returns : goal.returns
returns c = search walked_all
