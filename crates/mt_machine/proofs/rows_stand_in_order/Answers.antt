use Rattle.mt_machine.proofs.Order.{stands_in_order}
use Rattle.mt_machine.proofs.rows_stand_in_order.Goals as goal

pub returns : goal.returns
returns c = stands_in_order c.rows_of_a_place_are_in_order.ensures c.entries_are_in_order.ensures.in_order c.fabrics_are_in_order.ensures.in_order
