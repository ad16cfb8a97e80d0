-- The row has a column outside the mask exactly where the search for one finds it.
use Rattle.bits.proofs.Store.{bit_at_lt}
use Rattle.bits.proofs.Scan.{outside_answer}
use Rattle.bits.proofs.within.Goals as goal

pub returns : goal.returns
returns c =
    let a = c.args in
    outside_answer (bit_at_lt a.t.now a.row) (bit_at_lt a.mask.now 0) c.first_outside.result c.is_none.result c.is_none.ensures c.first_outside.ensures
