-- Written: what the writer answers and leaves in the buffer. inner: what the functions that put the groups promise, no part of a statement.
pub mod Written
pub mod Inner
