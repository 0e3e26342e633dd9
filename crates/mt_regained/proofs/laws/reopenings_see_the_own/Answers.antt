use Rattle.mt_regained.proofs.OwnRows.{sees_the_own}
use Rattle.mt_regained.proofs.Reopenings.{takes_the_added}
use Rattle.mt_regained.proofs.laws.reopenings_see_the_own.Goals as goal

pub returns-clause-own : goal.returns-clause-own
returns-clause-own c =
    sees_the_own c.durable_maps_are_kept.ensures c.states_are_regained.ensures.valid c.states_are_regained.ensures.again c.expiries_spare_others.ensures.valid c.expiries_roll_back.ensures.leaves

pub returns-clause-members : goal.returns-clause-members
returns-clause-members c = takes_the_added
