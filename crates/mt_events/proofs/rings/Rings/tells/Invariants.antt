-- no event so far is told
use Rattle.std.proofs.Common.{◌≡◌, ◌+◌, ◌-◌, length}
use Rattle.std.specs.List.{list_any}
use Rattle.mt_events.specs.Asked.{asked_by}
use Rattle.mt_events.specs.Reading.{is_told}
use Rattle.mt_events.specs.Rings.{ring_of}
use Rattle.mt_events.specs.Telling.{events_for, own_of}
use Rattle.mt_events.specs.Walk.{IsWithin, behind}
use Rattle.mt_events.proofs.rings.Rings.tells.Given as goal

abbrev pub invariant-events : goal.invariant-events
invariant-events g l = record {
  within : IsWithin l.actor.fabric l.self l.at;
  told : list_any (is_told (asked_by l.reader)) (behind l.actor.fabric l.self l.at) ≡ list_any (is_told (asked_by l.reader)) (events_for l.actor.fabric l.self);
}

abbrev pub decreases-events : goal.decreases-events
decreases-events g l = length (ring_of 0 l.self) + length (own_of l.actor.fabric l.self) - (l.at.shared + l.at.own)
