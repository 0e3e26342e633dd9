use Rattle.mt_runs.proofs.Births.{nobody_is_born}
use Rattle.mt_runs.proofs.GivingBack.{give_back_once}
use Rattle.mt_runs.proofs.Reopenings as reopenings
use Rattle.mt_runs.proofs.stops.reopenings_see_the_own_part.Goals as goal

pub returns-clause-valid : goal.returns-clause-valid
returns-clause-valid c = reopenings.reopens_valid c.reopenings_roll_back.ensures.valid c.ledgers_stay_ledgers.ensures.opens

pub returns-clause-taken : goal.returns-clause-taken
returns-clause-taken c = reopenings.reopenings_take c.reopenings_see_the_own.ensures.members

pub returns-clause-own : goal.returns-clause-own
returns-clause-own c = reopenings.reopenings_see c.reopenings_see_the_own.ensures.own

pub returns-clause-once : goal.returns-clause-once
returns-clause-once c = give_back_once c.ticks_let_the_failsafe_expire.ensures.others

pub returns-clause-born : goal.returns-clause-born
returns-clause-born c = nobody_is_born c.steps_are_moves.ensures c.steps_stand_first.ensures c.writes_touch_their_own.ensures c.wholes_are_valid.ensures.stays (returns-clause-taken c)

pub returns-clause-back : goal.returns-clause-back
returns-clause-back c = reopenings.reopenings_roll_back c.reopenings_roll_back.ensures.back
