use Rattle.mt_ledger.proofs.Keeping.{keeps_others, nobody_tells, nothing_told, ticks_spare}
use Rattle.mt_machine.specs.Lines.{action_of}
use Rattle.mt_ledger.proofs.history.others_events_are_kept.Goals as goal

pub returns-clause-action : goal.returns-clause-action
returns-clause-action c = λ given fabric s h actor asking asked deadline now rules valid is_history is apart there.
    keeps_others given fabric s h actor asking asked deadline now (c.actions_tell_their_own.ensures.own given s (action_of actor deadline asked) now rules valid) is apart there

pub returns-clause-tick : goal.returns-clause-tick
returns-clause-tick c = λ given fabric s h now rules valid is_history added. ticks_spare given fabric s h now (c.ticks_let_the_failsafe_expire.ensures.gone given s now valid) added

pub returns-clause-nobody : goal.returns-clause-nobody
returns-clause-nobody c = nobody_tells

pub returns-clause-time : goal.returns-clause-time
returns-clause-time c = λ given s h now. nothing_told now s h
