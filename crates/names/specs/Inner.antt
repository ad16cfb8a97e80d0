-- No part of the statement: what the functions of `names` promise one another and the crates above.
pub mod Tables
