use Rattle.std.proofs.Common.{◌≡◌, ◌++◌, ◌-◌, drop, length, vec_len}
use Rattle.mt_events.specs.Rings.{ring_of}
use Rattle.mt_marks.proofs.making.shared_events.Given as goal

-- the events so far, and those to come
abbrev pub invariant-events : goal.invariant-events
invariant-events l = l.shared.items ++ drop (vec_len l.shared) (ring_of 0 l.rings) ≡ ring_of 0 l.rings

abbrev pub decreases-events : goal.decreases-events
decreases-events l = length (ring_of 0 l.rings) - vec_len l.shared
