-- The laws that the proofs of `graph` and of its users cite.
--   BookTables      what a valid book's arrays say: units
--   Numbering       ordinals and places, one place at a time
--   UnitSteps       a unit's first and last step stand for all of it
--   UnitRows        the first and the last place of each unit, from the step next to it; what a flag chooses
--   ArcMarks        the arc rows, by run and place
-- `units`: Numbering, UnitRows. `tables`: these and dependence's Steps, with both BookTables. `arcs`: ArcMarks over both, with UnitSteps.
pub mod BookTables
pub mod Numbering
pub mod UnitSteps
pub mod UnitRows
pub mod ArcMarks
