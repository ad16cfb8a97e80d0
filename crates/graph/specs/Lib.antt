-- What the public calls promise: Units, and of dependence's specs Marks. inner is no part of a statement.
pub mod Units
pub mod Inner
