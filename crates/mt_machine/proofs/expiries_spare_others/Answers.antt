use Rattle.std.proofs.Common.{arith, refl}
use Rattle.mt_machine.proofs.Rolled.{rolled-valid}
use Rattle.mt_machine.proofs.Spared.{spared}
use Rattle.mt_machine.proofs.expiries_spare_others.Goals as goal

pub returns-clause-valid : goal.returns-clause-valid
returns-clause-valid c = λ s valid.
    rolled-valid c.what_stays_stands_in_order.ensures.rows c.what_stays_stands_in_order.ensures.entries c.set_rows_stand_in_order.ensures.ascending c.set_entries_stand_in_order.ensures.ascending
    s.armed s refl valid

pub returns-clause-own : goal.returns-clause-own
returns-clause-own c = λ fabric s valid some not_added not_updated.
    spared c.what_stays_stands_in_order.ensures.rows c.what_stays_stands_in_order.ensures.entries
    c.set_rows_stand_in_order.ensures.ascending c.set_rows_stand_in_order.ensures.others
    (λ es new whose. c.set_entries_stand_in_order.ensures.ascending es new 0 whose (omega arith)) c.set_entries_stand_in_order.ensures.others
    fabric some s.armed s refl valid not_added not_updated
