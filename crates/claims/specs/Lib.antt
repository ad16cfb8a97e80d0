-- Table: the refusals of calls. Demands: the demands, over what the public calls promise. Determined: a call's promise fixes its whole result.
-- Command54: where a 54 may stand, by table BookTable. Lazy: the demands exclude document 01's lazy programs. Classes: the classes are nested, as the calls answer.
-- OnePass: the dependence rows while the history is read. OldBooks: books without a homing step, and those without a transfer, give what they gave.
-- ArcsByName: the names of arcs, as the arc test and the program give them. TakeBack: what taking a run back does. Islands: the islands partition the
-- runs, and the whole is passed exactly when each is. EarlierGate: step and withdraw are as before take-backs. LongBooks: the numbers from before 30 and 31.
pub mod Table
pub mod Demands
pub mod Determined
pub mod Lazy
pub mod Classes
pub mod OnePass
pub mod OldBooks
pub mod ArcsByName
pub mod Command54
pub mod TakeBack
pub mod Islands
pub mod EarlierGate
pub mod LongBooks
