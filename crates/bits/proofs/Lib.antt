-- The laws behind the proofs of `bits`.
--   Word   one bit of a number: of and, or, complement, shifts, 2 ^ j, trailing and leading zeros
--   Store  the bits of a table: in a word, in a table of zeros, of words combined, while a row is changed word by word
--   Scan   a search through a row's words, upwards for the first column and downwards for the last
-- A call's proof cites laws of Store or Scan, which speak of one word; Word is below them.
-- Users of `bits` cite bit_at_lt, zeros_bit and alone_added of Store.
pub mod Word
pub mod Store
pub mod Scan
