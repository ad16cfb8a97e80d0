-- What the public calls promise. Marks: what a table of bits says of a history's places; Dependence: the rows after each step of the history;
-- Catalogue: what else is kept of the steps read. inner is no part of a statement.
pub mod Marks
pub mod Catalogue
pub mod Dependence
pub mod Inner
