-- What the table says of the places with items of each fabric, and that their keys are read as themselves.
use Rattle.std.proofs.Common.{◌≡◌, refl, ℕ, true, false, Some, Result, Ok, Err}
use Rattle.mt_model.specs.rows.Sight.{same_place}
use Rattle.mt_model.specs.declared.rows.place.Place.{Place}
use Rattle.mt_meta.specs.Finding.{find_data_of}
use Rattle.mt_meta.specs.Rows.{plain}
use Rattle.mt_meta.specs.Table.{attributes_of, clusters_of, endpoints, extensions_of, globals}
use Rattle.mt_meta.specs.declared.meta.Kind.TheVariants as kinds
use Rattle.mt_meta.specs.declared.meta.Meta.{Meta}
use Rattle.mt_model.specs.declared.messages.status.Status.{Status}
use Rattle.mt_grammar.specs.Keys.{is_index, key_in}
use Rattle.mt_grammar.specs.Values.{has_items, is_acl}
use Rattle.mt_grammar.specs.declared.keys.Key.TheVariants as keys
use Rattle.mt_lasting.specs.Keys.{acl_place, item_places, key_bytes}
use Rattle.mt_lasting.proofs.Folding.{Each}
use Rattle.mt_lasting.proofs.ReadItems.{AreStructs, bench_structs, binding_structs, map_structs, set_structs}

-- A place with items of each fabric.
pub record IsItems (place : Place) : Type 0 where
  pub meta : Meta
  pub is_data : find_data_of place ≡ Ok meta
  pub items : has_items meta ≡ true
  pub rows : is_acl meta.kind ≡ false
  pub no_entries : same_place place acl_place ≡ false
  pub structs : AreStructs meta.kind
  pub key : (fabric : ℕ) → is_index fabric ≡ true → key_in (key_bytes (keys.Items fabric place)) ≡ Some (keys.Items fabric place)

abbrev meta_of : Result Meta Status → Meta
meta_of (Ok meta) = meta
meta_of (Err status) = (plain 0 kinds.Uint).meta

abbrev key_map : Place
key_map = record { endpoint = 0; cluster = 0x3f; leaf = 0 }

abbrev key_sets : Place
key_sets = record { endpoint = 0; cluster = 0x3f; leaf = 0xfff10000 }

abbrev bindings : Place
bindings = record { endpoint = 1; cluster = 0x1e; leaf = 0 }

abbrev bench_items : Place
bench_items = record { endpoint = 1; cluster = 0xfff1fc00; leaf = 0 }

key_map_items : IsItems key_map
unfolding endpoints clusters_of attributes_of globals extensions_of
key_map_items = record {
  meta = meta_of (find_data_of key_map);
  is_data = refl;
  items = refl;
  rows = refl;
  no_entries = refl;
  structs = map_structs;
  key = λ fabric is. rw is refl;
}

key_sets_items : IsItems key_sets
unfolding endpoints clusters_of attributes_of globals extensions_of
key_sets_items = record {
  meta = meta_of (find_data_of key_sets);
  is_data = refl;
  items = refl;
  rows = refl;
  no_entries = refl;
  structs = set_structs;
  key = λ fabric is. rw is refl;
}

bindings_items : IsItems bindings
unfolding endpoints clusters_of attributes_of globals extensions_of
bindings_items = record {
  meta = meta_of (find_data_of bindings);
  is_data = refl;
  items = refl;
  rows = refl;
  no_entries = refl;
  structs = binding_structs;
  key = λ fabric is. rw is refl;
}

bench_items_items : IsItems bench_items
unfolding endpoints clusters_of attributes_of globals extensions_of
bench_items_items = record {
  meta = meta_of (find_data_of bench_items);
  is_data = refl;
  items = refl;
  rows = refl;
  no_entries = refl;
  structs = bench_structs;
  key = λ fabric is. rw is refl;
}

pub have_items : Each IsItems item_places
have_items = (key_map_items, (key_sets_items, (bindings_items, (bench_items_items, refl))))
