use Rattle.mt_ledger.proofs.Rings.{own_again, recent_again}
use Rattle.mt_ledger.proofs.history.veils_keep_events.Goals as goal

pub returns-clause-own : goal.returns-clause-own
returns-clause-own c = own_again

pub returns-clause-recent : goal.returns-clause-recent
returns-clause-recent c = recent_again
