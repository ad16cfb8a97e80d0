-- Names: the names of the arcs from one place to another, and of those of a cycle. inner is no part of the statement.
pub mod Names
pub mod Inner
