-- What functions promise one another, also between crates: no part of what a user is promised. Tables: a history's steps in tables, and the
-- places of each run. Reading: the row of one more step.
pub mod Tables
pub mod Reading
