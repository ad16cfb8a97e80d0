-- The laws that the proofs of `classes` cite.
--   Searched      what a search of pairs of places found: `no_pair`
--   UnitEnds      a step is interleaved with a unit, or linked to it, exactly if it is with the unit's first or last step
--   ClassLaws     `atomic_by`, `relatively_serial_by`: no pair of places violates exactly if the history is in the class
--   Collected     a row of bits as the set of the values met so far
--   SerialLaws    `stands_together`
--   UncutLaws     `is_conflict_serializable`, by 001's lemma 1
--   BookLaws      a valid book's tables, as the tests take them, and `tested`
-- Each call on bytes meets `TestedAs` by `tested`, from the answer of its test of the book that was read. That answer is the one over tables,
-- which ClassLaws and SerialLaws prove for every conflict and unit whose tables they are, and BookLaws takes to the book's own.
pub mod Searched
pub mod UnitEnds
pub mod ClassLaws
pub mod Collected
pub mod SerialLaws
pub mod BookLaws
pub mod UncutLaws
