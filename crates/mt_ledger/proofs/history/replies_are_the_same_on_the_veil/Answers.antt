use Rattle.mt_ledger.proofs.Replies.{line_replies_same, replies_same}
use Rattle.mt_ledger.proofs.history.replies_are_the_same_on_the_veil.Goals as goal

pub returns-clause-action : goal.returns-clause-action
returns-clause-action c = λ given s h actor asking request deadline now valid is on_state on_veil.
    replies_same c.veil_keeps_both_parts.ensures.own given h is c.sees_the_veil.ensures s valid actor asking request deadline now on_state on_veil

pub returns-clause-line : goal.returns-clause-line
returns-clause-line c = λ given s h actor asking now asked valid is on_state on_veil.
    line_replies_same c.veil_keeps_both_parts.ensures.own given h is c.what_is_asked_is_the_same_on_the_veil.ensures.reply s valid actor asking now asked on_state on_veil
