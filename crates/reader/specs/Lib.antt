-- The statement is `ReadAs` of `read` (crates/book/specs). inner is no part of it: what the reader's own functions promise one another.
pub mod Inner
