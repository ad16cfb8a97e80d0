-- Judged: what a verdict says. Judge: what the judge of a book's bytes promises. Front: the second call. inner is no part of the statement.
pub mod Judged
pub mod Judge
pub mod Front
pub mod Inner
