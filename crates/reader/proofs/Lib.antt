-- How `read` comes to meet the format. Commands: each way out of a command's function is a row of its table of tests, so that the function decides
-- what the format does. Loop: the reader's loop, whose invariant is that the format, reading on from what the tables mean, comes to the whole
-- book's outcome; each turn stores what the command adds (book's Books).
pub mod Commands
pub mod Loop
