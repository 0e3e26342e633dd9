use Rattle.std.proofs.Common.{◌≡◌, ◌++◌, drop}
use Rattle.std.specs.List.{flat_map}
use Rattle.mt_model.specs.rows.Seen.{seen_as}
use Rattle.mt_read.specs.Reading.{wildcard_items}
use Rattle.mt_read.proofs.reader.Reader.push_places.Given as goal

-- the items so far and those of the places to come are the items of all places, behind what was there
abbrev pub invariant-loop-place : goal.invariant-loop-place
invariant-loop-place g l =
    let items = wildcard_items (seen_as l.self.actor.now.fabric (g.S.Sight.rows_of l.self.sight.now) (g.S.Sight.versions l.self.sight.now) (g.S.Sight.all_entries l.self.sight.now)) l.self.actor.now l.self.filtered l.self.versions.now in
    l.items.items ++ flat_map items (drop l.place-index l.places) ≡ l.initial.items.items ++ flat_map items l.places
