-- Format: the format of a deck book. Render: the bytes of a book's contents. Numbers: the numbers of refusals. TestOrder: the order of the tests.
-- EarlierReader: how the reader from before command 54 reads books without a 54 and with one. Meaning: conflict and unit of a book, and the classes of its
-- history. Book: what a `Book` means, and what the reader promises. inner: what the functions inside promise one another, no part of a statement.
pub mod Format
pub mod Render
pub mod Numbers
pub mod TestOrder
pub mod EarlierReader
pub mod Meaning
pub mod Book
pub mod Inner
