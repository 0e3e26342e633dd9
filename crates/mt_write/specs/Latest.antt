-- What stands somewhere behind the steps that are to be made: the latest step that sets it says it.
use Rattle.std.specs.Prelude.{ℕ, ◌==◌, ◌&&◌, List, [], ◌∷◌, Option, Some, None, unwrap_or, if◌then◌else◌}
use Rattle.std.specs.Option.{option_or}
use Rattle.mt_tlv.specs.declared.value.Value.{Value}
use Rattle.mt_model.specs.rows.Sight.{same_place}
use Rattle.mt_model.specs.declared.tables.access.AclEntry.{AclEntry}
use Rattle.mt_model.specs.declared.node.action.NodeStep.{NodeStep}
use Rattle.mt_model.specs.declared.node.action.NodeStep.TheVariants.{SetRow, SetEntries}
use Rattle.mt_model.specs.declared.rows.place.Place.{Place}

-- what a step sets there, if it does

abbrev pub row_set : Place → ℕ → NodeStep → Option (List Value)
row_set place fabric (SetRow at whose values) = if same_place at place && whose == fabric then Some values else None
row_set place fabric step = None

abbrev pub entries_set : ℕ → NodeStep → Option (List AclEntry)
entries_set fabric (SetEntries whose entries) = if whose == fabric then Some entries else None
entries_set fabric step = None

-- what the last of the steps that sets it sets, and otherwise what was found before
abbrev pub latest : {X : Type 0} → (NodeStep → Option X) → Option X → List NodeStep → Option X
latest set found [] = found
latest set found (step ∷ steps) = latest set (option_or (set step) found) steps

abbrev pub rows_now : Place → ℕ → List NodeStep → List Value → List Value
rows_now place fabric steps stored = unwrap_or (latest (row_set place fabric) None steps) stored

abbrev pub entries_now : ℕ → List NodeStep → List AclEntry → List AclEntry
entries_now fabric steps stored = unwrap_or (latest (entries_set fabric) None steps) stored
