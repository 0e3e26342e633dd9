use Rattle.mt_subs.proofs.Staying.{added_is, changed_is, none_is, staying_is}
use Rattle.mt_subs.proofs.laws.valid_subscriptions_stay_valid.Goals as goal

pub returns-clause-none : goal.returns-clause-none
returns-clause-none c = none_is

pub returns-clause-added : goal.returns-clause-added
returns-clause-added c = added_is

pub returns-clause-changed : goal.returns-clause-changed
returns-clause-changed c = changed_is

pub returns-clause-staying : goal.returns-clause-staying
returns-clause-staying c = staying_is
