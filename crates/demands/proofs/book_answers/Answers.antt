-- Each answer meets its call's contract, of which demand 1 holds.
use Rattle.claims.proofs.Refusals.{demand_1}
use Rattle.demands.proofs.book_answers.Goals as goal

pub returns : goal.returns
returns c = record {
  read_book = demand_1.deck_read _ _ c.deck_read-read_book.ensures;
  serial = demand_1.deck_test _ _ _ c.deck_serial-serial.ensures;
  atomic = demand_1.deck_test _ _ _ c.deck_atomic-atomic.ensures;
  relserial = demand_1.deck_test _ _ _ c.deck_relserial-relserial.ensures;
  conflict = demand_1.deck_test _ _ _ c.deck_conflict-conflict.ensures;
  check_order = demand_1.deck_test _ _ _ c.deck_check_order-check_order.ensures;
  check_cycle = demand_1.deck_test _ _ _ c.deck_check_cycle-check_cycle.ensures;
  arc = demand_1.deck_name _ _ _ c.deck_arc-arc.ensures;
  opened = demand_1.deck_open _ _ c.deck_open-opened.ensures;
}
