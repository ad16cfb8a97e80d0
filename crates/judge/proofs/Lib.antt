-- The laws that the proofs of `judge` cite.
--   Verdicts      `judge_arcs`, `passes`: turns that take every place are a relatively serial order; else there is a cycle
--   NamedCycles   `name_arcs`: the value of the names of each arc of a cycle
--   Bytes         a refusal leaves both buffers as they were
--   Uncut         for demand 2: passed exactly if relatively serializable, and without cuts if conflict serializable
-- `judge` meets `BytesJudged` from `judge_book`, which judges a graph. Verdicts makes PassedAs of the turns by theory's
-- `whole_greedy`, and TangledAs of the walk back by theory's `cycle_refutes`.
pub mod Verdicts
pub mod NamedCycles
pub mod Bytes
pub mod Uncut
