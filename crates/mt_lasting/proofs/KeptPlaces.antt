-- The places of keys are those that the table keeps.
use Rattle.std.proofs.Common.{◌≡◌, refl, true, filter}
use Rattle.std.specs.List.{list_all}
use Rattle.mt_meta.specs.Places.{all_places}
use Rattle.mt_meta.specs.Table.{attributes_of, clusters_of, endpoints, extensions_of, globals}
use Rattle.mt_model.specs.rows.Stored.{stored_places}
use Rattle.mt_lasting.specs.Keys.{acl_place, item_places, single_places}
use Rattle.mt_lasting.specs.Laws.{ArePlacesKept, has_items_place, has_rows_or_entries, is_single_place}

singles : filter is_single_place all_places ≡ single_places
unfolding endpoints clusters_of attributes_of globals extensions_of
singles = refl

items : filter has_items_place stored_places ≡ item_places
unfolding endpoints clusters_of attributes_of globals extensions_of
items = refl

acl : has_items_place acl_place ≡ true
unfolding endpoints clusters_of attributes_of globals extensions_of
acl = refl

others : list_all has_rows_or_entries (filter has_items_place all_places) ≡ true
unfolding endpoints clusters_of attributes_of globals extensions_of
others = refl

pub kept_places : ArePlacesKept
kept_places = record { singles = singles; items = items; acl = acl; others = others }
