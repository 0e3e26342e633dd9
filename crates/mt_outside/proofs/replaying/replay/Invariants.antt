use Rattle.std.proofs.Common.{◌≡◌, ◌≤◌, drop, vec_capacity}
use Rattle.mt_outside.specs.Replaying.{events_of, left_after}
use Rattle.mt_outside.proofs.replaying.replay.Given as goal

abbrev pub invariant-events : goal.invariant-events
invariant-events l = record {
  left : left_after l.fate l.bytes.items (events_of (drop l.event-index l.events)) ≡ left_after l.fate l.initial.bytes.items (events_of l.events);
  capacity : vec_capacity l.initial.bytes ≤ vec_capacity l.bytes;
}
