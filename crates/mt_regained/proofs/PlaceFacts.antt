-- What the table says of the places that have keys.
use Rattle.std.proofs.Common.{◌≡◌, refl, ◌&&◌, not, true, [], ◌∷◌, Option, Some, None, Result, Ok, Err, filter}
use Rattle.std.specs.List.{list_any}
use Rattle.mt_model.specs.rows.Sight.{same_place, stands_at}
use Rattle.mt_model.specs.rows.Stored.{stored_places}
use Rattle.mt_model.specs.declared.messages.status.Status.{Status}
use Rattle.mt_model.specs.declared.rows.place.Place.{Place}
use Rattle.mt_model.specs.declared.rows.place.Row.{Row}
use Rattle.mt_meta.specs.Finding.{find_data_of}
use Rattle.mt_meta.specs.Rows.{plain}
use Rattle.mt_meta.specs.Stored.{first_rows, is_stored}
use Rattle.mt_meta.specs.Table.{attributes_of, clusters_of, endpoints, extensions_of, globals}
use Rattle.mt_meta.specs.declared.meta.Kind.TheVariants as kinds
use Rattle.mt_meta.specs.declared.meta.Meta.{Meta}
use Rattle.mt_meta.specs.declared.rows.AttributeRow.{AttributeRow}
use Rattle.mt_grammar.specs.Values.{has_items, is_acl, is_first_at, is_single, table_row}
use Rattle.mt_lasting.specs.Keys.{acl_place, item_places, single_places}
use Rattle.mt_regained.proofs.Lists.{Each}

-- A place with one value: its row is found as data and as an attribute, and it begins with its first value.
pub record IsSingle (place : Place) : Type 0 where
  pub row : AttributeRow
  pub is_data : find_data_of place ≡ Ok row.meta
  pub is_attribute : table_row place ≡ Some row
  pub single : is_single row.meta ≡ true
  pub stored : is_stored place ≡ true
  pub listed : list_any (same_place place) stored_places ≡ true
  pub begins : filter (λ (one : Row). stands_at place one && not (is_first_at place one.value)) first_rows ≡ []

-- A place with items of each fabric, which are rows, or entries.
pub record IsItems (place : Place) : Type 0 where
  pub meta : Meta
  pub is_data : find_data_of place ≡ Ok meta
  pub items : has_items meta ≡ true
  pub stored : is_stored place ≡ not (is_acl meta.kind)
  pub listed : list_any (same_place place) stored_places ≡ not (is_acl meta.kind)
  pub begins : filter (stands_at place) first_rows ≡ []

abbrev meta_of : Result Meta Status → Meta
meta_of (Ok meta) = meta
meta_of (Err status) = (plain 0 kinds.Uint).meta

abbrev row_of : Option AttributeRow → AttributeRow
row_of None = plain 0 kinds.Uint
row_of (Some row) = row

abbrev node_label : Place
node_label = record { endpoint = 0; cluster = 0x28; leaf = 5 }

abbrev location : Place
location = record { endpoint = 0; cluster = 0x28; leaf = 6 }

abbrev regulatory_config : Place
regulatory_config = record { endpoint = 0; cluster = 0x30; leaf = 2 }

abbrev interface_enabled : Place
interface_enabled = record { endpoint = 0; cluster = 0x31; leaf = 4 }

abbrev on_off : Place
on_off = record { endpoint = 1; cluster = 0x06; leaf = 0 }

abbrev labels : Place
labels = record { endpoint = 1; cluster = 0x41; leaf = 0 }

abbrev number : Place
number = record { endpoint = 1; cluster = 0xfff1fc00; leaf = 1 }

abbrev key_map : Place
key_map = record { endpoint = 0; cluster = 0x3f; leaf = 0 }

abbrev key_sets : Place
key_sets = record { endpoint = 0; cluster = 0x3f; leaf = 0xfff10000 }

abbrev bindings : Place
bindings = record { endpoint = 1; cluster = 0x1e; leaf = 0 }

abbrev bench_items : Place
bench_items = record { endpoint = 1; cluster = 0xfff1fc00; leaf = 0 }

node_label_single : IsSingle node_label
unfolding endpoints clusters_of attributes_of globals extensions_of is_stored
node_label_single = record {
  row = row_of (table_row node_label);
  is_data = refl;
  is_attribute = refl;
  single = refl;
  stored = refl;
  listed = refl;
  begins = refl;
}

location_single : IsSingle location
unfolding endpoints clusters_of attributes_of globals extensions_of is_stored
location_single = record {
  row = row_of (table_row location);
  is_data = refl;
  is_attribute = refl;
  single = refl;
  stored = refl;
  listed = refl;
  begins = refl;
}

regulatory_config_single : IsSingle regulatory_config
unfolding endpoints clusters_of attributes_of globals extensions_of is_stored
regulatory_config_single = record {
  row = row_of (table_row regulatory_config);
  is_data = refl;
  is_attribute = refl;
  single = refl;
  stored = refl;
  listed = refl;
  begins = refl;
}

interface_enabled_single : IsSingle interface_enabled
unfolding endpoints clusters_of attributes_of globals extensions_of is_stored
interface_enabled_single = record {
  row = row_of (table_row interface_enabled);
  is_data = refl;
  is_attribute = refl;
  single = refl;
  stored = refl;
  listed = refl;
  begins = refl;
}

on_off_single : IsSingle on_off
unfolding endpoints clusters_of attributes_of globals extensions_of is_stored
on_off_single = record {
  row = row_of (table_row on_off);
  is_data = refl;
  is_attribute = refl;
  single = refl;
  stored = refl;
  listed = refl;
  begins = refl;
}

labels_single : IsSingle labels
unfolding endpoints clusters_of attributes_of globals extensions_of is_stored
labels_single = record {
  row = row_of (table_row labels);
  is_data = refl;
  is_attribute = refl;
  single = refl;
  stored = refl;
  listed = refl;
  begins = refl;
}

number_single : IsSingle number
unfolding endpoints clusters_of attributes_of globals extensions_of is_stored
number_single = record {
  row = row_of (table_row number);
  is_data = refl;
  is_attribute = refl;
  single = refl;
  stored = refl;
  listed = refl;
  begins = refl;
}

acl_place_items : IsItems acl_place
unfolding endpoints clusters_of attributes_of globals extensions_of is_stored
acl_place_items = record {
  meta = meta_of (find_data_of acl_place);
  is_data = refl;
  items = refl;
  stored = refl;
  listed = refl;
  begins = refl;
}

key_map_items : IsItems key_map
unfolding endpoints clusters_of attributes_of globals extensions_of is_stored
key_map_items = record {
  meta = meta_of (find_data_of key_map);
  is_data = refl;
  items = refl;
  stored = refl;
  listed = refl;
  begins = refl;
}

key_sets_items : IsItems key_sets
unfolding endpoints clusters_of attributes_of globals extensions_of is_stored
key_sets_items = record {
  meta = meta_of (find_data_of key_sets);
  is_data = refl;
  items = refl;
  stored = refl;
  listed = refl;
  begins = refl;
}

bindings_items : IsItems bindings
unfolding endpoints clusters_of attributes_of globals extensions_of is_stored
bindings_items = record {
  meta = meta_of (find_data_of bindings);
  is_data = refl;
  items = refl;
  stored = refl;
  listed = refl;
  begins = refl;
}

bench_items_items : IsItems bench_items
unfolding endpoints clusters_of attributes_of globals extensions_of is_stored
bench_items_items = record {
  meta = meta_of (find_data_of bench_items);
  is_data = refl;
  items = refl;
  stored = refl;
  listed = refl;
  begins = refl;
}

pub are_single : Each IsSingle single_places
are_single = (node_label_single, (location_single, (regulatory_config_single, (interface_enabled_single, (on_off_single, (labels_single, (number_single, refl)))))))

pub have_items : Each IsItems (acl_place ∷ item_places)
have_items = (acl_place_items, (key_map_items, (key_sets_items, (bindings_items, (bench_items_items, refl)))))
