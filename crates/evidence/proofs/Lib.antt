-- The laws that the proofs of `evidence` cite.
--   NextLaws      `next_step`
--   OrderLaws     `equivalent_by`: l's steps are taken in turn, each after all that it depends on, exactly if l is an order that agrees
--   CycleLaws     `follows`, `cycle_by`: some name holds exactly where an arc leads, and a walk along arcs ends exactly on a cycle
--   BookLaws      what the checks and the names over tables say of a valid book's contents
-- Each check of bytes meets classes' `TestedAs` by the answer of its check of the book that was read. For an order that is `equivalent_by` and
-- then `classes::is_relatively_serial` of the book with it as its history.
pub mod NextLaws
pub mod OrderLaws
pub mod CycleLaws
pub mod BookLaws
