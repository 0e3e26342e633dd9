use Rattle.mt_subscribers.proofs.Laws.{gain}
use Rattle.mt_subscribers.proofs.subscriptions_are_gained.Goals as goal

pub returns : goal.returns
returns c = gain c.valid_subscriptions_stay_valid.ensures.staying c.ids_are_never_used_again.ensures.rises c.ids_are_never_used_again.ensures.given
