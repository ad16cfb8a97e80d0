use native.Mathlib.Omega.{arith}
use Rattle.graph.proofs.UnitRows.{lasts_own, lasts_copy_row, last_rows, kept_down}
use borrow.Author.Rules.{rules}
use Rattle.graph.proofs.Numbered.unit_lasts.Goals as goal

pub copy_row-requires : goal.copy_row-requires
copy_row-requires c = search (last_rows, arith)

pub loop-p-preserved-then-i-wide : goal.loop-p-preserved-then-i-wide
loop-p-preserved-then-i-wide c = (search rules, search (lasts_copy_row, arith), search kept_down)

pub loop-p-preserved : goal.loop-p-preserved
loop-p-preserved c = (search rules, search (lasts_own, arith), search kept_down)
