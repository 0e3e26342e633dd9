use Rattle.std.proofs.Common.{◌≡◌, ◌++◌, drop, map}
use Rattle.mt_apps.specs.EntryEvents.{entry_event}
use Rattle.mt_apps.proofs.events.push_each.Given as goal

-- the events so far and those of the entries to come are those of all entries
abbrev pub invariant-loop-entry : goal.invariant-loop-entry
invariant-loop-entry l = l.events ++ map (entry_event l.actor l.change) (drop l.entry-index l.entries) ≡ l.fn.events ++ map (entry_event l.actor l.change) l.entries
