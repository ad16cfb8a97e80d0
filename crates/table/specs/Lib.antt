-- BookTable: the table of a book's refusals.
pub mod BookTable
