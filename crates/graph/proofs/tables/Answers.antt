-- The tables of dependences and units are those of the book's contents.
use mathlib.Core.Path.{refl}
use Rattle.dependence.proofs.DependenceRows.{blank_zeros}
use Rattle.dependence.proofs.BookTables.{book_history, book_declared, book_room, book_steps, book_run_rows}
use Rattle.graph.proofs.BookTables.{book_tables, book_graph, book_some_tables}
use Rattle.graph.proofs.tables.Goals as goal

pub read_steps-requires : goal.read_steps-requires
read_steps-requires c = (search book_history, search book_room, search book_steps, search blank_zeros, search blank_zeros, search blank_zeros)

pub invariant_of-result : goal.invariant_of-result
invariant_of-result c =
    let t = book_tables _ c.requires _ _ _ _ _ _ _ c.read_steps.ensures c.units_lent.ensures in
    record {
      stored = book_history _ c.requires;
      runs = book_declared _ c.requires;
      run_rows = search book_run_rows;
      tables = ∣ book_some_tables _ c.requires _ _ _ t ∣₁;
    }

pub returns : goal.returns
returns c =
    let t = book_tables _ c.requires _ _ _ _ _ _ _ c.read_steps.ensures c.units_lent.ensures in
    book_graph _ c.requires _ refl refl t
