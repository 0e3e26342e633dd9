use Rattle.mt_ledger.proofs.Behind.{keeps_own_ledger}
use Rattle.mt_ledger.proofs.Told.{found_same}
use Rattle.mt_ledger.proofs.veils_keep_ledgers.Goals as goal

pub returns-clause-own : goal.returns-clause-own
returns-clause-own c = keeps_own_ledger c.veils_keep_events.ensures.own c.valid_subscriptions_stay_valid.ensures.none.indexed

pub returns-clause-recent : goal.returns-clause-recent
returns-clause-recent c = λ fabric l. c.veils_keep_events.ensures.recent fabric l.history

pub returns-clause-found : goal.returns-clause-found
returns-clause-found c = found_same
