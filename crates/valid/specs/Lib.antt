-- The contracts speak of `Valid` and `Flags` of crate book. TakenBack: the runs taken back at a gate, beside its other tables. inner is no part of
-- the statement.
pub mod TakenBack
pub mod Inner
