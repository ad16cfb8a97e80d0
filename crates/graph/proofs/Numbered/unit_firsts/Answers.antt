use Rattle.graph.proofs.UnitRows.{firsts_own, firsts_copy_row, first_index, first_rows, kept_row}
use Rattle.graph.proofs.Numbered.unit_firsts.Goals.{then-i-eq0, else-i-eq0}
use Rattle.graph.proofs.Numbered.unit_firsts.Goals as goal

pub bounds-self-r : goal.bounds-self-r
bounds-self-r c = search first_index

pub copy_row-requires : goal.copy_row-requires
copy_row-requires c = search first_rows

pub loop-p-preserved : goal.loop-p-preserved
loop-p-preserved c = (elim c.if-i-eq0.branch [ then-i-eq0 w ↦ search firsts_own | else-i-eq0 w ↦ search firsts_copy_row ], elim c.if-i-eq0.branch [ then-i-eq0 w ↦ search kept_row | else-i-eq0 w ↦ search kept_row ])
