-- How `report`'s promise comes about. Decimals: the digits of a number, how many they are, and their value. WithinLaws: puts within limits, each
-- behind the one before. TextLaws: the lines in groups. NameLetters: the names of arcs from their values. The functions that put lines rest on these four and on
-- `buffer`'s laws. FindingsLaws: what the reader, the class tests and the judge say of a book is a report on it (`findings_on`), and
-- putting its text is what `report` promises (`text_put`).
pub mod Decimals
pub mod WithinLaws
pub mod TextLaws
pub mod NameLetters
pub mod FindingsLaws
