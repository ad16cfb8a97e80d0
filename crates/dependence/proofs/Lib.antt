-- The laws that the proofs of `dependence` and of its users cite.
--   Counting        what a history's numbers are
--   Flags           the test of a listed pair by its flags
--   Rows            a row of bits joined with others, or kept within them
--   Catalogue       the places that the catalogues find, and one step more
--   Touches         a step case by case: single, or a transfer
--   DependenceRows  one row of the dependence table from the rows before it, and one step more
--   Steps           a history's steps in a book's table, one by one
--   BookTables      what a valid book's arrays say: conflicts, where its steps stand
-- `read_step`: Catalogue, Touches, DependenceRows. `dependences`: Steps, with BookTables.
pub mod Flags
pub mod Counting
pub mod Rows
pub mod Catalogue
pub mod Touches
pub mod DependenceRows
pub mod Steps
pub mod BookTables
