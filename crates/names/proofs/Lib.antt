-- The laws that the proofs of `names` and of its users cite.
--   NameLaws     `arc_names`: the names by the tables
--   CycleNames   the names of the arcs of a cycle, one by one
pub mod NameLaws
pub mod CycleNames
