use Rattle.std.proofs.Common.{arith}
use Rattle.mt_machine.proofs.Untouched.{saved-before, untouched}
use Rattle.mt_machine.proofs.steps_spare_others.Goals as goal

pub returns-clause-others : goal.returns-clause-others
returns-clause-others c = λ fabric asker step s valid sound apart.
    untouched c.what_stays_stands_in_order.ensures.rows c.what_stays_stands_in_order.ensures.entries
    c.set_rows_stand_in_order.ensures.ascending c.set_rows_stand_in_order.ensures.others
    (λ es new whose. c.set_entries_stand_in_order.ensures.ascending es new 0 whose (omega arith)) c.set_entries_stand_in_order.ensures.others
    fabric asker step s valid sound apart

pub returns-clause-saves : goal.returns-clause-saves
returns-clause-saves c = λ asker index given s may. saved-before index given s may
