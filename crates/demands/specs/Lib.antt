-- Results: the demands, that the classes are nested, the names of arcs, the one pass over a history, and a run taken back, of what the functions of this
-- crate return or leave.
pub mod Results
