use Rattle.std.proofs.Common.{◌≡◌, ◌++◌, drop}
use Rattle.mt_apps.specs.EntryEvents.{entry_events}
use Rattle.mt_apps.proofs.events.entry_events.Given as goal

-- the events so far and those of the steps to come are the events of all steps
abbrev pub invariant-loop-step : goal.invariant-loop-step
invariant-loop-step l = l.events ++ entry_events l.actor l.before (drop l.step-index l.steps) ≡ entry_events l.actor l.fn.entries l.steps
