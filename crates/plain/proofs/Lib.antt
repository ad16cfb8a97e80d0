-- PlainGate: the plain gate is single-valued; Total: it is total. Demand: demand 3 holds of what its rules give.
pub mod PlainGate
pub mod Total
pub mod Demand
