-- Replay: a whole list of calls in bytes. inner is no part of the statement.
pub mod Replay
pub mod Inner
