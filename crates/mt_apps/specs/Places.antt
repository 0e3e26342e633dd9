-- Whether each place of the table has its rows.
use Rattle.std.specs.Prelude.{◌==◌, ◌&&◌, ◌||◌, not, Bool, is_some, if◌then◌else◌}
use Rattle.mt_model.specs.declared.rows.place.Place.{Place}
use Rattle.mt_meta.specs.Stored.{count_first_rows, is_scoped, is_stored}
use Rattle.mt_meta.specs.clusters.OperationalCredentials as operational_credentials
use Rattle.mt_apps.specs.Computed.{computed_value}
use Rattle.mt_apps.specs.Parts.{Parts}

-- attribute 5 of Operational Credentials, CurrentFabricIndex, is each reader's own, and has no row
abbrev pub is_readers_own : Place → Bool
is_readers_own place = place.cluster == operational_credentials.cluster && place.leaf == 5

-- what is computed without being one value: a list with a row for each item of a fabric, and what is each reader's own
abbrev pub has_no_value : Place → Bool
has_no_value place = is_scoped place || is_readers_own place

-- What is stored begins with exactly one row, where it is not a list with a row for each item of a fabric, and is not
-- computed besides. All else is computed: it has a value, but for those exceptions.
abbrev pub has_its_rows : Parts → Place → Bool
has_its_rows parts place =
    if is_stored place then (is_scoped place || count_first_rows place == 1) && not (is_some (computed_value parts place))
    else if has_no_value place then not (is_some (computed_value parts place))
    else is_some (computed_value parts place)
