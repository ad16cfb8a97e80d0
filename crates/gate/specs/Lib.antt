-- Gate: what the record means, and what opening and the calls promise. Chain: calls made in turn on the one record. inner is no part of the
-- statement.
pub mod Gate
pub mod Chain
pub mod Inner
