-- Calls: what the replay's own functions promise each other.
pub mod Calls
