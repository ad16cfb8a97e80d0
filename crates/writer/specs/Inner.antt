-- Groups: the bytes of each group's tables, and what the functions that put them ask for.
pub mod Groups
