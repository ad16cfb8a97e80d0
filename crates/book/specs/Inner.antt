-- Room: when the tables have room for one more.
pub mod Room
