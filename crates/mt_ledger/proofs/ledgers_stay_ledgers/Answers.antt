use Rattle.std.proofs.Common.{refl}
use Rattle.mt_ledger.proofs.Ledgers.{stays}
use Rattle.mt_ledger.proofs.ledgers_stay_ledgers.Goals as goal

pub returns-clause-opens : goal.returns-clause-opens
returns-clause-opens c = λ s ceiling. record { history = c.histories_stay_histories.ensures.opens ceiling; subs = c.valid_subscriptions_stay_valid.ensures.none; there = refl; owners = refl }

pub returns-clause-stays : goal.returns-clause-stays
returns-clause-stays c =
    stays c.histories_stay_histories.ensures.stays c.what_is_asked_is_the_same_on_the_veil.ensures.known
    c.valid_subscriptions_stay_valid.ensures.added c.valid_subscriptions_stay_valid.ensures.changed c.valid_subscriptions_stay_valid.ensures.staying
