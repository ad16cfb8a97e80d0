-- Where l is an order that agrees, the book may have it as its history, and its test for relatively serial is that of l.
use borrow.Author.Rules.{rules}
use Rattle.evidence.proofs.BookLaws.{not_equivalent, order_allowed, order_answer}
use Rattle.evidence.proofs.is_relatively_serial_order.Goals as goal

pub returns-then-not-equivalent_by : goal.returns-then-not-equivalent_by
returns-then-not-equivalent_by c = search not_equivalent

pub with_history-reordered-requires : goal.with_history-reordered-requires
with_history-reordered-requires c = (search rules, search order_allowed)

pub returns : goal.returns
returns c = search order_answer
