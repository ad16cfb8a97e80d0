-- The theorems on relative serializability, from the bottom up.
--   Lists      laws of lists of numbers: counts, sums, zeros, stores
--   Answered   the answers yes and no
--   Places     the place of a step; a list with the same counts is as long
--   Finite     search below a bound; decisions put together from decisions
--   Steps      the steps of one list in another: places, conflicts, dependences, units
--   Forward    in a relatively serial order that agrees every arc goes forward (001, lemma 2), so a cycle refutes
--   Sorted     an order in which every arc goes forward is relatively serial and agrees
--   Decided    dependence, units and arcs are decided
--   Greedy     taking the smallest ready place at each turn, until all are taken, gives an order in which every arc goes forward
--   Cycles     where no place is ready and one is left, walking back from source to source ends in a cycle
--   Theorem    001, theorem 1
--   Within     a part of a relatively serializable history is one: prefixes, projections; what is tangled stays so
--   Classes    the classes are nested
--   OneUnit    001, lemma 1: without cuts, relatively serializable is conflict serializable
--   Decisions  the classes, the order check and the cycle check are decided
--   DeckLaws   a book's conflict is lawful; what a homing step conflicts with; lemma 1 for a book without cuts
--   Rows       the twelve histories, by computation
-- Theorem 1: Greedy's turns end with every place taken or with none ready (`Theorem.judged`). In the first case Sorted makes their order a
-- relatively serial one that agrees (`whole_greedy`); in the second Cycles finds a cycle, and Forward shows that there is no such order.
pub mod Lists
pub mod Answered
pub mod Places
pub mod Finite
pub mod Steps
pub mod Forward
pub mod Sorted
pub mod Decided
pub mod Greedy
pub mod Cycles
pub mod Theorem
pub mod Within
pub mod Classes
pub mod Connected
pub mod Parts
pub mod Components
pub mod OneUnit
pub mod Decisions
pub mod DeckLaws
pub mod Rows
