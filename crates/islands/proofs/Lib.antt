-- The laws that the proofs of `islands` cite.
--   Naming   the name of each run's component, found join by join
--   Listing  the lists of names, and the flags of the others
--   Calls    a book's islands and an island's history
pub mod Naming
pub mod Listing
pub mod Calls
