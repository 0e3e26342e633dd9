-- What a valid state gives to those who read its map: of its rows, its entries and its fabrics.
use Rattle.std.proofs.Common.{◌≡◌, ◌∙◌, refl, sym, ap, ℕ, ◌&&◌, ◌==◌, not, nat_le, Bool, true, false, List, [], Ok, filter, length, count_by}
use Rattle.std.proofs.lemmas.Bool.{and_from, and_parts, eqb-true, not-true, both_ways}
use Rattle.std.proofs.lemmas.List.Sums.{length-filter}
use Rattle.std.specs.List.{list_all}
use Rattle.mt_model.specs.rows.Setting.{is_at, is_entry_of}
use Rattle.mt_model.specs.rows.Sight.{same_place, stands_at}
use Rattle.mt_model.specs.texts.Config.{is_entry, is_fabric}
use Rattle.mt_model.specs.declared.node.state.NodeState.{NodeState}
use Rattle.mt_model.specs.declared.rows.place.Place.{Place}
use Rattle.mt_model.specs.declared.rows.place.Row.{Row}
use Rattle.mt_model.specs.declared.tables.fabric.Fabric.{Fabric}
use Rattle.mt_meta.specs.Finding.{find_data_of}
use Rattle.mt_meta.specs.Forms.{has_form}
use Rattle.mt_meta.specs.Places.{all_places}
use Rattle.mt_meta.specs.Stored.{is_stored}
use Rattle.mt_meta.specs.Table.{attributes_of, clusters_of, endpoints, extensions_of, globals}
use Rattle.mt_meta.specs.declared.meta.Meta.{Meta}
use Rattle.mt_grammar.specs.Values.{is_acl, is_single}
use Rattle.mt_machine.specs.State.{IsValid, has_one_row, is_row, is_row_at, is_row_of, is_unscoped, stands_once}
use Rattle.mt_lasting.specs.Keys.{acl_place}
use Rattle.mt_lasting.specs.Values.{has_index}
use Rattle.mt_lasting.proofs.AddItems.{is_formed_fabric}
use Rattle.mt_lasting.proofs.AddSingles.{fits_single}
use Rattle.mt_lasting.proofs.ItemFacts.{IsItems}
use Rattle.mt_lasting.proofs.PlaceFacts.{IsSingle}
use Rattle.mt_lasting.proofs.ReadEntries.{is_formed_of}
use Rattle.mt_lasting.proofs.Lists.{all_kept, none_kept, picked, place-same}
use Rattle.mt_lasting.proofs.ReadItems.{is_formed}

-- Rows.

-- a row of a place that the table has is of its form, and of a fabric only if its list is scoped
row_parts : (fabrics : List Fabric) (place : Place) (meta : Meta) (row : Row) → find_data_of place ≡ Ok meta → same_place row.place place ≡ true → is_row fabrics row ≡ true
    → (has_form meta row.fabric row.value ≡ true) × (is_row_of fabrics meta.scoped row.fabric ≡ true)
row_parts fabrics place meta row there at formed =
    let is : row.place ≡ place = place-same row.place place at in
    let here : is_row_at fabrics row (find_data_of row.place) ≡ true = (and_parts (is_stored row.place) (is_row_at fabrics row (find_data_of row.place)) formed).1 in
    let found : find_data_of row.place ≡ Ok meta = ap find_data_of is ∙ there in
    let both : (has_form meta row.fabric row.value && is_row_of fabrics meta.scoped row.fabric) ≡ true = ap (is_row_at fabrics row) (sym found) ∙ here in
    and_parts (has_form meta row.fabric row.value) (is_row_of fabrics meta.scoped row.fabric) both

nobodys : (fabrics : List Fabric) (scoped : Bool) (fabric : ℕ) → scoped ≡ false → is_row_of fabrics scoped fabric ≡ true → (fabric == 0) ≡ true
nobodys fabrics true fabric is its = absurd cc
nobodys fabrics false fabric is its = its

unscoped : (meta : Meta) → is_single meta ≡ true → meta.scoped ≡ false
unscoped meta single = not-true meta.scoped (and_parts (not meta.scoped) (not (is_acl meta.kind)) (and_parts meta.kept (not meta.scoped && not (is_acl meta.kind)) single).1).0

list_unstored : is_stored acl_place ≡ false
unfolding endpoints clusters_of attributes_of globals extensions_of is_stored
list_unstored = refl

module _ (s : NodeState) (valid : IsValid s) where
  module _ (place : Place) (facts : IsSingle place) where
    pub once : length (filter (stands_at place) s.rows) ≡ 1
    once =
        let alone : is_unscoped (find_data_of place) ≡ true = ap is_unscoped facts.is_data ∙ ap not (unscoped facts.row.meta facts.single) in
        let kept : has_one_row place ≡ true = and_from _ _ facts.stored alone in
        let counted : stands_once s.rows place ≡ true = picked (stands_once s.rows) has_one_row place all_places kept facts.listed valid.rows_stand in
        length-filter (stands_at place) s.rows ∙ eqb-true (count_by (stands_at place) s.rows) 1 counted

    row_fits : (row : Row) → stands_at place row ≡ true → is_row s.fabrics row ≡ true → fits_single place facts.row.meta row ≡ true
    row_fits row at formed =
        let parts = row_parts s.fabrics place facts.row.meta row facts.is_data at formed in
        let its = nobodys s.fabrics facts.row.meta.scoped row.fabric (unscoped facts.row.meta facts.single) parts.1 in
        let none : row.fabric ≡ 0 = eqb-true row.fabric 0 its in
        let form : has_form facts.row.meta 0 row.value ≡ true = ap (λ fabric. has_form facts.row.meta fabric row.value) (sym none) ∙ parts.0 in
        and_from _ _ at (and_from _ _ form its)

    pub rows_fit : list_all (fits_single place facts.row.meta) (filter (stands_at place) s.rows) ≡ true
    rows_fit = all_kept (is_row s.fabrics) (fits_single place facts.row.meta) (stands_at place) row_fits s.rows valid.row_forms

  module _ (fabric : ℕ) (place : Place) (facts : IsItems place) where
    item_formed : (row : Row) → is_at place fabric row ≡ true → is_row s.fabrics row ≡ true → is_formed place fabric facts.meta facts.structs row ≡ true
    item_formed row at formed =
        let here = and_parts (same_place row.place place) (row.fabric == fabric) at in
        let parts = row_parts s.fabrics place facts.meta row facts.is_data here.0 formed in
        let its : row.fabric ≡ fabric = eqb-true row.fabric fabric here.1 in
        and_from _ _ at (ap (λ f. has_form facts.meta f row.value) (sym its) ∙ parts.0)

    pub items_formed : list_all (is_formed place fabric facts.meta facts.structs) (filter (is_at place fabric) s.rows) ≡ true
    items_formed = all_kept (is_row s.fabrics) (is_formed place fabric facts.meta facts.structs) (is_at place fabric) item_formed s.rows valid.row_forms

    pub items_few : nat_le (length (filter (is_at place fabric) s.rows)) facts.meta.limit ≡ true
    items_few =
        let scoped : facts.meta.scoped ≡ true = (and_parts facts.meta.kept facts.meta.scoped facts.items).1 in
        ap (λ n. nat_le n facts.meta.limit) (length-filter (is_at place fabric) s.rows) ∙ valid.row_counts place facts.meta fabric facts.is_data scoped

  -- none stands where the access control list does
  pub none_listed : (fabric : ℕ) → filter (is_at acl_place fabric) s.rows ≡ []
  none_listed fabric = none_kept (is_row s.fabrics) (is_at acl_place fabric) not_there s.rows valid.row_forms
    where
      by_place : (row : Row) (there : Bool) → same_place row.place acl_place ≡ there → is_row s.fabrics row ≡ true → (there && row.fabric == fabric) ≡ false
      by_place row false at formed = refl
      by_place row true at formed =
          let is : row.place ≡ acl_place = place-same row.place acl_place at in
          let stored : is_stored row.place ≡ true = (and_parts (is_stored row.place) (is_row_at s.fabrics row (find_data_of row.place)) formed).0 in
          absurd (both_ways (is_stored row.place) (ap is_stored is ∙ list_unstored) stored)

      not_there : (row : Row) → is_row s.fabrics row ≡ true → is_at acl_place fabric row ≡ false
      not_there row formed = by_place row (same_place row.place acl_place) refl formed

  -- Entries.

  pub entries_formed : (fabric : ℕ) → list_all (is_formed_of fabric) (filter (is_entry_of fabric) s.entries) ≡ true
  entries_formed fabric = all_kept is_entry (is_formed_of fabric) (is_entry_of fabric) (λ entry its formed. and_from _ _ its formed) s.entries valid.entry_forms

  -- Fabrics.

  pub fabrics_formed : (fabric : ℕ) → list_all (is_formed_fabric fabric) (filter (has_index fabric) s.fabrics) ≡ true
  fabrics_formed fabric = all_kept is_fabric (is_formed_fabric fabric) (has_index fabric) (λ one its formed. and_from _ _ its formed) s.fabrics valid.fabric_forms
