-- Put: what a function that puts bytes at the front of a lent buffer leaves there. Each: the bytes of each element of a list. Parts: pieces of bytes,
-- one after another.
pub mod Put
pub mod Each
pub mod Parts
