-- Bytes: lists of bytes, by computation. EachNumber: each number of a book's refusals is some book's.
-- Turned: a refusal that is a row, and a call that is carried out. JudgeRefusals: 12, then the refusals of what is judged. IslandNames: an island has one name.
-- IslandRefusals: the refusals of the calls on islands, demand 1 of these.
-- Refusals: demand 1. Demands: demands 2 and 3, and the twelve rows. Determined: two results that meet a call's contract are equal. Lazy: document 01's
-- lazy programs do not meet the demands. Classes: answers that meet the calls' contracts have the classes nested. OnePass: each row is final
-- once its step is read. OldBooks: a contract by a book's conflict is one by the earlier conflict, where the two are the same. ArcsByName: the names that
-- are given hold, and a letter is the first of them. Command54: command 54 beside 53. TakeBack: what the plain gate's rule for a take-back comes to.
-- EarlierGate: step and withdraw are as before take-backs. LongBooks: the numbers from before 30 and 31.
pub mod Bytes
pub mod EachNumber
pub mod Turned
pub mod JudgeRefusals
pub mod IslandNames
pub mod IslandRefusals
pub mod Refusals
pub mod Demands
pub mod Determined
pub mod Lazy
pub mod Classes
pub mod OnePass
pub mod OldBooks
pub mod ArcsByName
pub mod Command54
pub mod TakeBack
pub mod Islands
pub mod EarlierGate
pub mod LongBooks
