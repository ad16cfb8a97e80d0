-- What the private functions of `report` promise. No part of the statement.
pub mod Widths
pub mod Lines
