-- What functions promise one another, also between crates: no part of what a user is promised. Tables: a history's units in tables. Arcs: the
-- arc rows.
pub mod Tables
pub mod Arcs
