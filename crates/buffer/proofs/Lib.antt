-- What puts amount to. PutLaws: no bytes, one put behind another, what room is left. EachLaws: the bytes of each element of
-- a list: of two lists, of one element more, how many. InTurn: a loop that puts piece after piece, after i of n pieces; the pieces are those of the
-- elements of a list (`taken_parts`), or any others.
pub mod PutLaws
pub mod EachLaws
pub mod InTurn
