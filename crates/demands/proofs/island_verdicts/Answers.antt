-- Each turn tells the verdict of one island more.
use Rattle.std.proofs.Common.{rules}
use Rattle.demands.proofs.IslandVerdicts.{verdicts_more}
use Rattle.demands.proofs.island_verdicts.Goals as goal

pub loop-i-preserved : goal.loop-i-preserved
loop-i-preserved c = verdicts_more _ _ _ _ c.loop-i.invariant (search rules) _ c.island_judged.ensures
