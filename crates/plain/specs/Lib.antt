-- Plain: document 01's plain gate. Demand: demand 3.
pub mod Plain
pub mod Demand
