use Rattle.mt_regained.proofs.Again.{kept_again}
use Rattle.mt_regained.proofs.Valid.{states_valid}
use Rattle.mt_regained.proofs.laws.states_are_regained.Goals as goal

pub returns-clause-valid : goal.returns-clause-valid
returns-clause-valid c = states_valid c.states_are_valid.ensures.opens

pub returns-clause-again : goal.returns-clause-again
returns-clause-again c = kept_again
