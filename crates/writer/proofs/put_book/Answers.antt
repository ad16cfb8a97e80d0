-- Each group is put behind those before it; together they are the bytes of the book.
use mathlib.Core.Path.{ap}
use Rattle.buffer.proofs.PutLaws.{behind, put_is}
use Rattle.writer.specs.Inner.Groups.{table_contents}
use Rattle.writer.proofs.WriteLaws.{bytes_runs, lent_runs, groups}
use Rattle.writer.proofs.put_book.Goals as goal

pub returns : goal.returns
returns c =
    let b = c.args.b.now in
    put_is (behind (behind (behind (behind c.put_pairs-pairs_end.ensures (put_is c.put_runs-n.ensures (ap bytes_runs (lent_runs b.declared b.lengths b.steps)))) c.put_cuts-m.ensures) c.put_history-k.ensures) c.put_byte-e.ensures)
    (groups (table_contents b.pairs b.declared b.lengths b.steps b.cuts b.done b.history))
