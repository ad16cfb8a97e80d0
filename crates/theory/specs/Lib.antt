-- The definitions of relative serializability. History: places, orders, serial. Relative: conflicts, dependence, units, classes.
-- Graph: arcs, cycles, the order of smallest ready places. Deck: conflict and unit as a deck book gives them. Transfers: steps of
-- two touches. Homing: a touch at position 65535. Rows: the twelve histories. Lists: sums. Answers: a test's answer. inner is no part of a statement.
--
-- The letters:
--   h        a history                    l, m     other lists of run numbers: an order of h, what is kept or taken of it
--   r, s     runs                         o        the run that sees: the viewer of a unit
--   i, j     ordinals; indices of a list
--   p, q, k  places of h; q is the later, k any
--   a, b, c  places of l, or of the one list that a definition speaks of, in rising order; d any place of it
--   x, y     the ends of an arc, from x to y; two steps
--   t, u     touches
--   f        the first or the last place of a unit
--   c        a cycle, where it is a list
-- In Deck c is a cut, a and b are kinds, p and q positions, and p the first of a list of pairs. In Rows r, w and a are kinds of step, y and n answers.
pub mod Lists
pub mod Answers
pub mod History
pub mod Relative
pub mod Graph
pub mod Components
pub mod Deck
pub mod Transfers
pub mod Homing
pub mod Rows
pub mod Inner
