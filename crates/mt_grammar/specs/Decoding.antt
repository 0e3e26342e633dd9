-- What a map keeps, read key by key.
use Rattle.std.specs.Prelude.{ℕ, List, [], ◌∷◌, ◌++◌, Option, Some, None, Result, Ok, Err, if◌then◌else◌}
use Rattle.mt_tlv.specs.Tree.{Tree}
use Rattle.mt_tlv.specs.View.{tree}
use Rattle.mt_tlv.specs.declared.value.Value.{Value}
use Rattle.mt_durable.specs.declared.durable.Entry.{Entry}
use Rattle.mt_model.specs.rows.Order.{row_at}
use Rattle.mt_model.specs.declared.messages.status.Status.{Status}
use Rattle.mt_model.specs.declared.rows.place.Place.{Place}
use Rattle.mt_model.specs.declared.rows.place.Row.{Row}
use Rattle.mt_model.specs.declared.tables.access.AclEntry.{AclEntry}
use Rattle.mt_model.specs.declared.tables.fabric.Fabric.{Fabric}
use Rattle.mt_model.specs.declared.tables.network.Armed.{Armed}
use Rattle.mt_model.specs.declared.tables.network.Network.{Network}
use Rattle.mt_meta.specs.Finding.{find_data_of}
use Rattle.mt_meta.specs.declared.meta.Meta.{Meta}
use Rattle.mt_grammar.specs.Fields.{number_in}
use Rattle.mt_grammar.specs.Keys.{key_in}
use Rattle.mt_grammar.specs.Values.{armed_in, entries_in, fabric_in, greatest_boot, greatest_ceiling, has_items, is_acl, items_in, may_stand, networks_in, roots_in}
use Rattle.mt_grammar.specs.declared.keys.Key.{Key}
use Rattle.mt_grammar.specs.declared.keys.Key.TheVariants as keys
use Rattle.mt_grammar.specs.declared.kept.MapContents.{MapContents}

-- an empty map
abbrev pub nothing : MapContents
nothing = record { boot = None; ceiling = None; rows = []; entries = []; fabrics = []; roots = []; networks = []; failsafe = None }

-- With what stands under one key more.

abbrev pub with_boot : MapContents → Option ℕ → Option MapContents
with_boot kept None = None
with_boot kept (Some boot) = Some (record kept { boot = Some boot })

abbrev pub with_ceiling : MapContents → Option ℕ → Option MapContents
with_ceiling kept None = None
with_ceiling kept (Some ceiling) = Some (record kept { ceiling = Some ceiling })

abbrev pub with_rows : MapContents → Option (List Row) → Option MapContents
with_rows kept None = None
with_rows kept (Some rows) = Some (record kept { rows = kept.rows ++ rows })

abbrev pub with_entries : MapContents → Option (List AclEntry) → Option MapContents
with_entries kept None = None
with_entries kept (Some entries) = Some (record kept { entries = kept.entries ++ entries })

abbrev pub with_single : MapContents → Place → Value → Option MapContents
with_single kept place value = if may_stand place value then with_rows kept (Some (row_at place 0 value ∷ [])) else None

abbrev pub with_items_in : MapContents → ℕ → Place → Tree → Result Meta Status → Option MapContents
with_items_in kept fabric place tree (Err status) = None
with_items_in kept fabric place tree (Ok meta) = if has_items meta
    then (if is_acl meta.kind then with_entries kept (entries_in fabric tree) else with_rows kept (items_in place fabric meta tree))
    else None

-- the items of an attribute, or the group key sets, which no path names
abbrev pub with_items : MapContents → ℕ → Place → Tree → Option MapContents
with_items kept fabric place tree = with_items_in kept fabric place tree (find_data_of place)

abbrev pub with_fabric : MapContents → Option Fabric → Option MapContents
with_fabric kept None = None
with_fabric kept (Some fabric) = Some (record kept { fabrics = kept.fabrics ++ fabric ∷ [] })

abbrev pub with_roots : MapContents → Option (List (List ℕ)) → Option MapContents
with_roots kept None = None
with_roots kept (Some roots) = Some (record kept { roots = roots })

abbrev pub with_networks : MapContents → Option (List Network) → Option MapContents
with_networks kept None = None
with_networks kept (Some networks) = Some (record kept { networks = networks })

abbrev pub with_failsafe : MapContents → Option Armed → Option MapContents
with_failsafe kept None = None
with_failsafe kept (Some armed) = Some (record kept { failsafe = Some armed })

abbrev pub with_value : MapContents → Value → Key → Option MapContents
with_value kept value keys.Boot = with_boot kept (number_in greatest_boot (tree value))
with_value kept value keys.Ceiling = with_ceiling kept (number_in greatest_ceiling (tree value))
with_value kept value (keys.Single place) = with_single kept place value
with_value kept value (keys.Items fabric place) = with_items kept fabric place (tree value)
with_value kept value (keys.Fabric index) = with_fabric kept (fabric_in index (tree value))
with_value kept value keys.Roots = with_roots kept (roots_in (tree value))
with_value kept value keys.Networks = with_networks kept (networks_in (tree value))
with_value kept value keys.Failsafe = with_failsafe kept (armed_in (tree value))

abbrev pub with_pair : MapContents → Option Key → Option Value → Option MapContents
with_pair kept (Some key) (Some value) = with_value kept value key
with_pair kept _ _ = None

abbrev pub with_entry : MapContents → Entry → Option MapContents
with_entry kept entry = with_pair kept (key_in entry.key) entry.value

-- The entries of a map one after the other.

abbrev pub and_entry : Option MapContents → Entry → Option MapContents
and_entry None entry = None
and_entry (Some kept) entry = with_entry kept entry

abbrev pub kept_after : Option MapContents → List Entry → Option MapContents
kept_after kept [] = kept
kept_after kept (entry ∷ entries) = kept_after (and_entry kept entry) entries

-- what a map keeps, None where a key or what stands under it has no form
abbrev pub kept_in : List Entry → Option MapContents
kept_in entries = kept_after (Some nothing) entries
