-- the changes so far and those of the places to come are those of all places
use Rattle.std.proofs.Common.{◌≡◌, ◌++◌, drop, map}
use Rattle.mt_model.specs.declared.rows.place.Place.{Place}
use Rattle.mt_subs.specs.Changes.{change_at}
use Rattle.mt_subs.proofs.changes.Changes.new.Given as goal

abbrev pub invariant-loop-place : goal.invariant-loop-place
invariant-loop-place l = l.changes.items ++ map (λ (place : Place). change_at place 0) (drop l.place-index l.place-items) ≡ map (λ (place : Place). change_at place 0) l.place-items
