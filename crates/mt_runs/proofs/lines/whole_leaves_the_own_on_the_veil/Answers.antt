use Rattle.std.proofs.Common.{sym, ◌∙◌}
use Rattle.mt_runs.specs.Isolation.{own_part, seen_whole}
use Rattle.mt_runs.specs.LineLaws.{WholeLeavesTheOwnOnTheVeil}
use Rattle.mt_runs.specs.Lines.{next}
use Rattle.mt_runs.proofs.Leaving.{leaves_on_veil}
use Rattle.mt_runs.proofs.lines.whole_leaves_the_own_on_the_veil.Goals as goal

pub returns-clause-veil : goal.returns-clause-veil
returns-clause-veil c = λ given w e rules valid.
    leaves_on_veil c.sessions_keep_their_ids.ensures given w valid c.subscribers_are_replied_the_same_on_the_veil.ensures.action c.veils_keep_ledgers.ensures.found c.veil_keeps_both_parts.ensures.own c.veils_keep_ledgers.ensures.own
    c.leaves_the_own_on_the_veil.ensures.action c.keeps_the_own.ensures.time c.ledgers_are_left_on_the_veil.ensures.action c.ledgers_are_left_on_the_veil.ensures.confirm c.ledgers_are_left_on_the_veil.ensures.end rules
    c.leaves_the_own_on_the_veil.ensures.event c.what_is_asked_is_the_same_on_the_veil.ensures.asker c.what_is_asked_is_the_same_on_the_veil.ensures.deadline c.ledgers_are_left_on_the_veil.ensures.tick
    c.reports_are_the_same_on_the_veil.ensures.due c.reports_are_the_same_on_the_veil.ensures.told c.ledgers_are_left_on_the_veil.ensures.report e

pub returns-clause-view : goal.returns-clause-view
returns-clause-view c = λ given w v e rules valid_w valid_v fabric own public.
    let on_veil : WholeLeavesTheOwnOnTheVeil = returns-clause-veil c in
    sym (on_veil given w e rules valid_w)
    ∙ (λ i. own_part (fabric i) (next given (seen_whole (fabric i) (own i) (public i)) e))
    ∙ on_veil given v e rules valid_v
