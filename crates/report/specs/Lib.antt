-- The statement: Reporting, what `report` promises; Text, the text of a report, byte for byte; Letters, its letters in ASCII. No part of it:
-- inner, for the contracts of the functions that put the lines.
pub mod Letters
pub mod Text
pub mod Reporting
pub mod Inner
