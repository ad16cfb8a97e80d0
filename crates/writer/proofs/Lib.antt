-- GroupLaws: the pieces that each group's loop puts, one command each, of cuts one block each. WriteLaws: a valid book's groups, put one behind another,
-- are its rendering, and by book's RoundTrip the rendering of what was read is the book that was read; so `write` meets `Wrote`.
pub mod GroupLaws
pub mod WriteLaws
