use Rattle.std.proofs.Common.{◌≡◌, ◌++◌, drop}
use Rattle.mt_apps.specs.EntryEvents.{events_between}
use Rattle.mt_apps.proofs.events.push_changes.Given as goal

-- the events so far, and those from this place on, are those of all
abbrev pub invariant-loop-i : goal.invariant-loop-i
invariant-loop-i l = l.events ++ events_between l.actor (drop l.i l.entries) (drop l.i l.others) ≡ l.fn.events ++ events_between l.actor l.entries l.others
