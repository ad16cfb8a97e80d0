-- Calls: what the gate's own functions promise each other.
pub mod Calls
