-- What the table says of the places with one value, and that their keys are read as themselves.
use Rattle.std.proofs.Common.{◌≡◌, refl, true, Option, Some, None, Ok}
use Rattle.std.specs.List.{list_any}
use Rattle.mt_model.specs.rows.Sight.{same_place}
use Rattle.mt_model.specs.declared.rows.place.Place.{Place}
use Rattle.mt_meta.specs.Finding.{find_data_of}
use Rattle.mt_meta.specs.Places.{all_places}
use Rattle.mt_meta.specs.Rows.{plain}
use Rattle.mt_meta.specs.Stored.{is_stored}
use Rattle.mt_meta.specs.Table.{attributes_of, clusters_of, endpoints, extensions_of, globals}
use Rattle.mt_meta.specs.declared.meta.Kind.TheVariants as kinds
use Rattle.mt_meta.specs.declared.rows.AttributeRow.{AttributeRow}
use Rattle.mt_grammar.specs.Keys.{key_in}
use Rattle.mt_grammar.specs.Values.{is_single, table_row}
use Rattle.mt_grammar.specs.declared.keys.Key.TheVariants as keys
use Rattle.mt_lasting.specs.Keys.{key_bytes, single_places}
use Rattle.mt_lasting.proofs.Folding.{Each}

-- A place with one value: its row is found as data and as an attribute.
pub record IsSingle (place : Place) : Type 0 where
  pub row : AttributeRow
  pub is_data : find_data_of place ≡ Ok row.meta
  pub is_attribute : table_row place ≡ Some row
  pub single : is_single row.meta ≡ true
  pub stored : is_stored place ≡ true
  pub listed : list_any (same_place place) all_places ≡ true
  pub key : key_in (key_bytes (keys.Single place)) ≡ Some (keys.Single place)

abbrev row_of : Option AttributeRow → AttributeRow
row_of None = plain 0 kinds.Uint
row_of (Some row) = row

abbrev node_label : Place
node_label = record { endpoint = 0; cluster = 0x28; leaf = 5 }

abbrev location : Place
location = record { endpoint = 0; cluster = 0x28; leaf = 6 }

abbrev regulatory_config : Place
regulatory_config = record { endpoint = 0; cluster = 0x30; leaf = 2 }

abbrev interface_enabled : Place
interface_enabled = record { endpoint = 0; cluster = 0x31; leaf = 4 }

abbrev on_off : Place
on_off = record { endpoint = 1; cluster = 0x06; leaf = 0 }

abbrev labels : Place
labels = record { endpoint = 1; cluster = 0x41; leaf = 0 }

abbrev number : Place
number = record { endpoint = 1; cluster = 0xfff1fc00; leaf = 1 }

node_label_single : IsSingle node_label
unfolding endpoints clusters_of attributes_of globals extensions_of is_stored
node_label_single = record {
  row = row_of (table_row node_label);
  is_data = refl;
  is_attribute = refl;
  single = refl;
  stored = refl;
  listed = refl;
  key = refl;
}

location_single : IsSingle location
unfolding endpoints clusters_of attributes_of globals extensions_of is_stored
location_single = record {
  row = row_of (table_row location);
  is_data = refl;
  is_attribute = refl;
  single = refl;
  stored = refl;
  listed = refl;
  key = refl;
}

regulatory_config_single : IsSingle regulatory_config
unfolding endpoints clusters_of attributes_of globals extensions_of is_stored
regulatory_config_single = record {
  row = row_of (table_row regulatory_config);
  is_data = refl;
  is_attribute = refl;
  single = refl;
  stored = refl;
  listed = refl;
  key = refl;
}

interface_enabled_single : IsSingle interface_enabled
unfolding endpoints clusters_of attributes_of globals extensions_of is_stored
interface_enabled_single = record {
  row = row_of (table_row interface_enabled);
  is_data = refl;
  is_attribute = refl;
  single = refl;
  stored = refl;
  listed = refl;
  key = refl;
}

on_off_single : IsSingle on_off
unfolding endpoints clusters_of attributes_of globals extensions_of is_stored
on_off_single = record {
  row = row_of (table_row on_off);
  is_data = refl;
  is_attribute = refl;
  single = refl;
  stored = refl;
  listed = refl;
  key = refl;
}

labels_single : IsSingle labels
unfolding endpoints clusters_of attributes_of globals extensions_of is_stored
labels_single = record {
  row = row_of (table_row labels);
  is_data = refl;
  is_attribute = refl;
  single = refl;
  stored = refl;
  listed = refl;
  key = refl;
}

number_single : IsSingle number
unfolding endpoints clusters_of attributes_of globals extensions_of is_stored
number_single = record {
  row = row_of (table_row number);
  is_data = refl;
  is_attribute = refl;
  single = refl;
  stored = refl;
  listed = refl;
  key = refl;
}

pub are_single : Each IsSingle single_places
are_single = (node_label_single, (location_single, (regulatory_config_single, (interface_enabled_single, (on_off_single, (labels_single, (number_single, refl)))))))
