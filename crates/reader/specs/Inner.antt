-- Reader: what the reader's own functions promise each other.
pub mod Reader
