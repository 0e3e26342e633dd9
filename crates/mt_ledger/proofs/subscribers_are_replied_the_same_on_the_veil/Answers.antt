use Rattle.mt_ledger.proofs.Replied.{action_replied, line_replied, responded}
use Rattle.mt_ledger.proofs.subscribers_are_replied_the_same_on_the_veil.Goals as goal

pub returns-clause-action : goal.returns-clause-action
returns-clause-action c =
    action_replied c.sees_the_veil.ensures c.veil_keeps_both_parts.ensures.own c.veils_keep_events.ensures.own c.veils_keep_events.ensures.recent c.valid_subscriptions_stay_valid.ensures.none.indexed
    c.replies_are_the_same_on_the_veil.ensures.action

pub returns-clause-line : goal.returns-clause-line
returns-clause-line c =
    line_replied c.sees_the_veil.ensures c.veil_keeps_both_parts.ensures.own c.veils_keep_events.ensures.own c.veils_keep_events.ensures.recent c.valid_subscriptions_stay_valid.ensures.none.indexed
    c.what_is_asked_is_the_same_on_the_veil.ensures.deadline c.replies_are_the_same_on_the_veil.ensures.line

pub returns-clause-response : goal.returns-clause-response
returns-clause-response c =
    responded c.sees_the_veil.ensures c.veil_keeps_both_parts.ensures.own c.veils_keep_events.ensures.own c.veils_keep_events.ensures.recent c.valid_subscriptions_stay_valid.ensures.none.indexed
    c.what_is_asked_is_the_same_on_the_veil.ensures.deadline
