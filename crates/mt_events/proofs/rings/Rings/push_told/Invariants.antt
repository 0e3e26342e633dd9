-- the items so far and the events that then fit are those of all, behind what was there
use Rattle.std.proofs.Common.{◌≡◌, ◌≤◌, ◌+◌, ◌-◌, ◌++◌, filter, length}
use Rattle.mt_events.specs.Asked.{asked_by}
use Rattle.mt_events.specs.Reading.{is_told}
use Rattle.mt_events.specs.Rings.{ring_of}
use Rattle.mt_events.specs.Telling.{fitting, own_of, told_events}
use Rattle.mt_events.specs.Walk.{IsWithin, behind}
use Rattle.mt_events.proofs.rings.Rings.push_told.Given as goal

abbrev pub invariant-events : goal.invariant-events
invariant-events l = record {
  room : l.room ≤ 1176;
  within : IsWithin l.reader.actor.now.fabric l.self l.at;
  told : l.items.items ++ fitting l.room (filter (is_told (asked_by l.reader)) (behind l.reader.actor.now.fabric l.self l.at)) ≡ l.initial.items.items ++ fitting l.initial.room (told_events (asked_by l.reader) l.self);
}

abbrev pub decreases-events : goal.decreases-events
decreases-events l = length (ring_of 0 l.self) + length (own_of l.reader.actor.now.fabric l.self) - (l.at.shared + l.at.own)
