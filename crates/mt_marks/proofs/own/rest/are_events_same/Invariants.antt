use Rattle.std.proofs.Common.{◌≡◌, ◌≤◌, ◌-◌, length, take}
use Rattle.mt_events.specs.Telling.{own_of}
use Rattle.mt_marks.proofs.own.rest.are_events_same.Given as goal

-- the events so far are the same
abbrev pub invariant-events : goal.invariant-events
invariant-events l =
    let mine = own_of l.fabric l.one in
    (take l.index mine ≡ take l.index (own_of l.fabric l.other)) × (l.index ≤ length mine)

abbrev pub decreases-events : goal.decreases-events
decreases-events l = length (own_of l.fabric l.one) - l.index
