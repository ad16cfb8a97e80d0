-- What functions promise one another, also between crates: no part of what a user is promised.
pub mod Names
pub mod Arcs
