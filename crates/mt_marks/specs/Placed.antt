-- Rows by the places at which they stand.
use Rattle.std.specs.Prelude.{List, filter}
use Rattle.std.specs.List.{flat_map}
use Rattle.mt_model.specs.rows.Sight.{stands_at}
use Rattle.mt_model.specs.declared.rows.place.Place.{Place}
use Rattle.mt_model.specs.declared.rows.place.Row.{Row}

-- the rows that stand at each of these places, one place after the other
abbrev pub standing : List Place → List Row → List Row
standing places rows = flat_map (λ (place : Place). filter (stands_at place) rows) places
