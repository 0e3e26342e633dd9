use Rattle.mt_machine.proofs.Expiries.{comes_first, rollbacks_leave, rolls_back}
use Rattle.mt_machine.proofs.expiries_roll_back.Goals as goal

pub returns-clause-first : goal.returns-clause-first
returns-clause-first c = λ given s action now keeps valid.
    comes_first c.requests_keep_rules.ensures
    given s keeps valid action now

pub returns-clause-back : goal.returns-clause-back
returns-clause-back c = λ given s action now keeps valid.
    rolls_back c.requests_keep_rules.ensures
    given s keeps valid action now

pub returns-clause-leaves : goal.returns-clause-leaves
returns-clause-leaves c = rollbacks_leave c.what_stays_stands_in_order.ensures.rows c.set_rows_stand_in_order.ensures.others
