-- No part of the statement: what the functions inside `bits` promise one another.
pub mod Words
