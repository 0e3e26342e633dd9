use Rattle.std.proofs.Common.{◌≡◌, ◌++◌, drop}
use Rattle.std.specs.List.{flat_map}
use Rattle.mt_read.specs.Reading.{path_items}
use Rattle.mt_model.specs.rows.Seen.{seen_as}
use Rattle.mt_read.proofs.reader.Reader.answered.Given as goal

-- the items so far and those of the paths to come are the items of all paths
abbrev pub invariant-loop-path : goal.invariant-loop-path
invariant-loop-path g l =
    let items = path_items (seen_as l.self.actor.now.fabric (g.S.Sight.rows_of l.self.sight.now) (g.S.Sight.versions l.self.sight.now) (g.S.Sight.all_entries l.self.sight.now)) l.self.actor.now l.self.filtered l.self.versions.now in
    l.items.items ++ flat_map items (drop l.path-index l.paths) ≡ flat_map items l.paths
