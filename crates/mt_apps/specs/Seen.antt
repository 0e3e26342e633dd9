-- What of a view the computed rows are computed from, and what commands find there.
use Rattle.std.specs.Prelude.{List, filter}
use Rattle.mt_apps.specs.Parts.{Parts}
use Rattle.mt_model.specs.rows.Setting.{is_at}
use Rattle.mt_model.specs.declared.rows.place.Place.{Place}
use Rattle.mt_model.specs.declared.rows.place.Row.{Row}
use Rattle.mt_model.specs.declared.rows.sight.View.{View}

abbrev pub parts_in : View → Parts
parts_in view = record { entries = view.entries.now; fabrics = view.fabrics.now; roots = view.roots.now; networks = view.networks.now }

-- the rows of a place that are nobody's, which are those of attributes that are not scoped by fabric
abbrev pub nobodys_rows : View → Place → List Row
nobodys_rows view place = filter (is_at place 0) view.rows.now
