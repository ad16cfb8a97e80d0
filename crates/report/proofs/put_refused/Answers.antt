-- The words and the numbers, each behind the one before.
use mathlib.Core.List.{[], ◌∷◌, ◌++◌}
use native.Mathlib.Omega.{arith}
use borrow.Author.Rules.{rules}
use lib.ListN.{length-append}
use Rattle.buffer.proofs.PutLaws.{room_behind, behind, put_is}
use Rattle.report.specs.Letters.{a, t, blank, line_end}
use Rattle.report.specs.Text.{decimal}
use Rattle.report.proofs.Decimals.{decimal_few, decimal_any}
use Rattle.report.proofs.TextLaws.{refused_text}
use Rattle.report.proofs.put_refused.Goals as goal

pub put_number-number_end-requires : goal.put_number-number_end-requires
put_number-number_end-requires c = omega (arith, decimal_few c.wide-number.result (omega (arith, c.wide-number.ensures.1)), c.requires)

pub put_number-n-requires : goal.put_number-n-requires
put_number-n-requires c =
    let few = decimal_few c.wide-number.result (omega (arith, c.wide-number.ensures.1)) in
    let h = room_behind ((blank ∷ a ∷ t ∷ blank ∷ []) ++ decimal c.args.refusal.place) c.put_number-number_end.ensures (omega (arith, few, decimal_any c.args.refusal.place (search rules), c.requires)) in
    omega (arith, h)

pub put_byte-m-requires : goal.put_byte-m-requires
put_byte-m-requires c =
    let few = decimal_few c.wide-number.result (omega (arith, c.wide-number.ensures.1)) in
    room_behind
    (line_end ∷ [])
    (behind c.put_number-number_end.ensures c.put_number-n.ensures)
    (omega (arith, few, decimal_any c.args.refusal.place (search rules), c.requires, length-append (decimal c.wide-number.result) ((blank ∷ a ∷ t ∷ blank ∷ []) ++ decimal c.args.refusal.place)))

pub returns : goal.returns
returns c =
    put_is
    (behind (behind c.put_number-number_end.ensures c.put_number-n.ensures) c.put_byte-m.ensures)
    (rw (← c.number_of.ensures, ← c.wide-number.ensures.0) (refused_text c.wide-number.result c.args.refusal.place))
