-- Tested: what a test of a book's bytes says. inner is no part of the statement.
pub mod Tested
pub mod Inner
