-- The tables: Codes, the codes of steps; Groups, the lists that the groups of tables stand for; Books, what a valid book means by its tables, and what each
-- stored command adds to it; Empty, the empty book; WithHistory, the loop of `with_history`, over Books' law of one more done step; LeaveOut, that
-- of `leave_out`, over WithHistory's; Determined, a valid book is determined by what it means.
-- The format: Numbers, each cause has a number of its own; Refusals, what `?` passes on; Ladder, a table of tests, row by row; TestOrder, each table stands in the documents' order;
-- FormatLaws, the format as a relation between states, along which the reader accepts and no other way; RenderLaws, the bytes of contents command by
-- command; Sizes, how many they are; Histories, what stays well-formed with another history; RoundTrip, both directions: what is rendered is read, and
-- what is accepted is its rendering; EarlierReader, the reader from before command 54 reads as this one up to the first 54, and refuses there.
pub mod Numbers
pub mod Refusals
pub mod Ladder
pub mod TestOrder
pub mod Codes
pub mod Groups
pub mod Books
pub mod Empty
pub mod WithHistory
pub mod LeaveOut
pub mod Determined
pub mod FormatLaws
pub mod RenderLaws
pub mod Sizes
pub mod Histories
pub mod RoundTrip
pub mod EarlierReader
