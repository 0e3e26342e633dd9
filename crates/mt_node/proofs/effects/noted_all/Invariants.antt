use Rattle.std.proofs.Common.{◌≡◌, ◌≤◌, drop}
use Rattle.mt_subs.specs.Changes.{newest_of}
use Rattle.mt_machine.specs.Changes.{noted_all}
use Rattle.mt_node.proofs.effects.noted_all.Given as goal

-- the places to come make of the changes so far what all places make of those that stood
abbrev pub invariant-loop-place : goal.invariant-loop-place
invariant-loop-place l = record {
  noted : noted_all (drop l.place-index l.places) l.number l.changes ≡ noted_all l.places l.number l.fn.numbers;
  newest : newest_of l.changes ≤ l.number;
}
