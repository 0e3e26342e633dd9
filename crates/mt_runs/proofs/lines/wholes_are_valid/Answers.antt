use Rattle.mt_runs.proofs.Valid as valid
use Rattle.mt_runs.proofs.lines.wholes_are_valid.Goals as goal

pub returns-clause-opens : goal.returns-clause-opens
returns-clause-opens c = valid.opens c.states_are_valid.ensures.opens c.ledgers_stay_ledgers.ensures.opens

pub returns-clause-stays : goal.returns-clause-stays
returns-clause-stays c = valid.stays c.states_are_valid.ensures.stays c.ledgers_stay_ledgers.ensures.stays c.sessions_keep_their_ids.ensures
    c.deadlines_stand.ensures.lines c.deadlines_stand.ensures.actions
