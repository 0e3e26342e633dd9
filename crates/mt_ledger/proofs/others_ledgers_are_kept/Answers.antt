use Rattle.mt_ledger.proofs.Behind.{asked_aside, confirms_aside, ends_aside, reports_aside, ticks_aside}
use Rattle.mt_ledger.proofs.Passing.{nobody_changes, time_passes}
use Rattle.mt_ledger.proofs.others_ledgers_are_kept.Goals as goal

pub returns-clause-action : goal.returns-clause-action
returns-clause-action c = asked_aside c.keeps_the_own.ensures.action c.others_events_are_kept.ensures.action

pub returns-clause-confirm : goal.returns-clause-confirm
returns-clause-confirm c = λ fabric other id apart given s l now is. confirms_aside c.keeps_the_own.ensures.time c.others_events_are_kept.ensures.time given fabric s l now is other id apart

pub returns-clause-end : goal.returns-clause-end
returns-clause-end c = λ fabric other ids apart given s l now is. ends_aside c.keeps_the_own.ensures.time c.others_events_are_kept.ensures.time given fabric s l now is other ids apart

pub returns-clause-report : goal.returns-clause-report
returns-clause-report c = λ fabric other id apart given s l now is. reports_aside c.keeps_the_own.ensures.time c.others_events_are_kept.ensures.time given fabric s l now is other id apart

pub returns-clause-tick : goal.returns-clause-tick
returns-clause-tick c = ticks_aside c.ticks_let_the_failsafe_expire.ensures.others c.others_events_are_kept.ensures.tick

pub returns-clause-nobody : goal.returns-clause-nobody
returns-clause-nobody c = nobody_changes c.actions_set_values.ensures.time c.others_events_are_kept.ensures.nobody

pub returns-clause-time : goal.returns-clause-time
returns-clause-time c = time_passes c.actions_set_values.ensures.time c.others_events_are_kept.ensures.time
