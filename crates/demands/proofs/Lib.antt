-- Readings: the answers of the calls on the same bytes. Feeding: one more step read. IslandVerdicts: the verdicts of a
-- book's islands. The other functions cite the theorems of `claims`.
pub mod Readings
pub mod Feeding
pub mod IslandVerdicts
