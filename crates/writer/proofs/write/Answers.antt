-- One law for each way out: refused by the reader, the buffer short, and the book put. What was put is the bytes of what was read, and these
-- are the book's (the first round trip).
use Rattle.writer.proofs.WriteLaws.{book_held, wrote_book}
use Rattle.writer.proofs.write.Goals as goal

pub put_book-n-requires : goal.put_book-n-requires
put_book-n-requires c = search (book_held, c.in_ok-b.ensures)

pub returns : goal.returns
returns c = search (wrote_book, c.in_ok-b.ensures)
