-- No part of the statement: what the private functions of `evidence` promise one another.
pub mod Tables
