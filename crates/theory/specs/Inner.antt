-- No part of a statement: functions that proofs here and in higher crates speak of.
pub mod Places
