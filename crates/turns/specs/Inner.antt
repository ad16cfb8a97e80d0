-- Turns: the turns of the greedy order. Cycles: the walk back, where no place is ready.
pub mod Turns
pub mod Cycles
