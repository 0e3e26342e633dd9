use Rattle.mt_subscribers.proofs.Laws.{stay}
use Rattle.mt_subscribers.proofs.subscriptions_stay.Goals as goal

pub returns : goal.returns
returns c = stay c.valid_subscriptions_stay_valid.ensures.staying c.ids_are_never_used_again.ensures.rises c.ids_are_never_used_again.ensures.others
