-- Named: what the arc test of a book's bytes says. The checks promise what `classes` does of its tests. inner is no part of the statement.
pub mod Named
pub mod Inner
