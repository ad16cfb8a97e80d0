-- Islands: what the calls on a book's islands promise. inner is no part of a statement.
pub mod Islands
pub mod Inner
