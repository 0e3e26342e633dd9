use Rattle.std.proofs.Common.{◌≡◌, ◌++◌, drop, filter}
use Rattle.mt_machine.specs.Changes.{differs}
use Rattle.mt_node.proofs.between.places_between.Given as goal

-- the places that differ so far, and those among the places to come
abbrev pub invariant-loop-place : goal.invariant-loop-place
invariant-loop-place l = l.differing ++ filter (differs l.state l.behind) (drop l.place-index l.place-items) ≡ filter (differs l.state l.behind) l.place-items
