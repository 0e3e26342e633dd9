-- the room behind the items so far
use Rattle.std.proofs.Common.{◌≡◌, ◌-◌, take}
use Rattle.mt_events.specs.Telling.{bytes_of}
use Rattle.mt_events.proofs.telling.room_behind.Given as goal

abbrev pub invariant-loop-item : goal.invariant-loop-item
invariant-loop-item l = l.room ≡ 1176 - bytes_of (take l.item-index l.items)
