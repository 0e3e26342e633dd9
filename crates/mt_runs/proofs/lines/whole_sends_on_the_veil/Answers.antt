use Rattle.std.proofs.Common.{sym, ◌∙◌}
use Rattle.mt_runs.specs.Isolation.{seen_whole}
use Rattle.mt_runs.specs.LineLaws.{WholeSendsOnTheVeil}
use Rattle.mt_runs.specs.Lines.{sent}
use Rattle.mt_runs.proofs.Sending.{sends_on_veil}
use Rattle.mt_runs.proofs.lines.whole_sends_on_the_veil.Goals as goal

pub returns-clause-veil : goal.returns-clause-veil
returns-clause-veil c = λ given w e valid.
    sends_on_veil c.subscribers_are_replied_the_same_on_the_veil.ensures.action c.veils_keep_ledgers.ensures.found given w valid c.what_is_asked_is_the_same_on_the_veil.ensures.asker c.subscribers_are_replied_the_same_on_the_veil.ensures.line
    c.subscribers_are_replied_the_same_on_the_veil.ensures.response c.reports_are_the_same_on_the_veil.ensures.due c.reports_are_the_same_on_the_veil.ensures.told e

pub returns-clause-view : goal.returns-clause-view
returns-clause-view c = λ given w v e valid_w valid_v fabric own public.
    let on_veil : WholeSendsOnTheVeil = returns-clause-veil c in
    sym (on_veil given w e valid_w)
    ∙ (λ i. sent given (seen_whole (fabric i) (own i) (public i)) e)
    ∙ on_veil given v e valid_v
