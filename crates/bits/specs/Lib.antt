-- Table: which bit stands where, and what the calls say of tables. First, Last: the first and the last column of a set.
-- inner is no part of the statement.
pub mod Table
pub mod First
pub mod Last
pub mod Inner
