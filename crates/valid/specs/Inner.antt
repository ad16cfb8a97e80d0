-- Tables: what the functions promise each other.
pub mod Tables
