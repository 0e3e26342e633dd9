-- What stands under the keys of attributes and items behind steps that set values.
use Rattle.std.proofs.Common.{◌≡◌, ◌∙◌, refl, sym, ap, subst, inl, inr, ℕ, ◌&&◌, ◌==◌, true, false, List, [], ◌∷◌, Option, Some, None, filter, map, unwrap_or}
use Rattle.std.proofs.lemmas.Bool.{and_parts, or_cases}
use Rattle.std.specs.List.{list_all, list_any}
use Rattle.mt_tlv.specs.Tree.{Elements, more}
use Rattle.mt_tlv.specs.View.{tree}
use Rattle.mt_tlv.specs.declared.value.Tag.TheVariants.{Anonymous}
use Rattle.mt_tlv.specs.declared.value.Value.{Value}
use Rattle.mt_tlv.specs.declared.value.Value.TheVariants.{Array}
use Rattle.mt_model.specs.Trees.{untagged}
use Rattle.mt_model.specs.rows.Order.{row_at}
use Rattle.mt_model.specs.rows.Setting.{is_at, is_entry_of}
use Rattle.mt_model.specs.rows.Sight.{same_place, stands_at}
use Rattle.mt_model.specs.declared.node.action.NodeStep.{NodeStep}
use Rattle.mt_model.specs.declared.node.state.NodeState.{NodeState}
use Rattle.mt_model.specs.declared.rows.place.Place.{Place}
use Rattle.mt_model.specs.declared.rows.place.Row.{Row}
use Rattle.mt_model.specs.declared.tables.access.AclEntry.{AclEntry}
use Rattle.mt_meta.specs.Forms.{has_form}
use Rattle.mt_meta.specs.declared.meta.Meta.{Meta}
use Rattle.mt_machine.specs.Effects.{after_all, is_setting_step}
use Rattle.mt_machine.specs.State.{IsValid}
use Rattle.mt_write.specs.Latest.{entries_set, latest, row_set}
use Rattle.mt_lasting.specs.Keys.{acl_place, single_places}
use Rattle.mt_lasting.specs.Steps.{first_kept}
use Rattle.mt_lasting.specs.Values.{array_if, entry_tree, items_value, row_tree, single_in, single_value}
use Rattle.mt_lasting.proofs.AddSingles.{fits_single}
use Rattle.mt_lasting.proofs.EntriesBehind.{KeepsOtherEntries, SetsEntriesInOrder, entries_behind, up_from_none}
use Rattle.mt_lasting.proofs.Folding.{Each}
use Rattle.mt_lasting.proofs.Lists.{filter-both, place-same}
use Rattle.mt_lasting.proofs.PlaceFacts.{IsSingle, are_single}
use Rattle.mt_lasting.proofs.RowsBehind.{KeepsOthers, SetsInOrder, or_stored, rows_behind}
use Rattle.mt_lasting.proofs.Valid.{rows_fit}

-- Attributes with one value, whose rows are nobody's.

-- what holds of each of some places holds of one that is among them
each_found : (P : Place → Type 0) (place : Place) (places : List Place) → Each P places → list_any (same_place place) places ≡ true → P place
each_found P place [] each listed = absurd cc
each_found P place (first ∷ places) each listed = elim (or_cases (same_place place first) (list_any (same_place place) places) listed) [
  | inl here ↦ subst P (sym (place-same place first here)) each.0
  | inr later ↦ each_found P place places each.1 later
]

-- rows that fit there are of fabric 0
nobodys_stay : (place : Place) (meta : Meta) (rows : List Row) → list_all (fits_single place meta) rows ≡ true → filter (λ (row : Row). row.fabric == 0) rows ≡ rows
nobodys_stay place meta [] fit = refl
nobodys_stay place meta (row ∷ rows) fit =
    let both = and_parts (fits_single place meta row) (list_all (fits_single place meta) rows) fit in
    let parts = and_parts (stands_at place row) (has_form meta 0 row.value && row.fabric == 0) both.0 in
    let form = and_parts (has_form meta 0 row.value) (row.fabric == 0) parts.1 in
    rw form.1 (ap (λ (l : List Row). row ∷ l) (nobodys_stay place meta rows both.1))

are_nobodys : (s : NodeState) → IsValid s → (place : Place) → IsSingle place → filter (stands_at place) s.rows ≡ filter (is_at place 0) s.rows
are_nobodys s valid place facts =
    sym (filter-both (stands_at place) (λ (row : Row). row.fabric == 0) s.rows ∙ nobodys_stay place facts.row.meta (filter (stands_at place) s.rows) (rows_fit s valid place facts))

-- what is under the key of items that are rows
pub of_rows : (fabric : ℕ) (place : Place) → same_place place acl_place ≡ false → (s : NodeState) → items_value fabric place s ≡ array_if row_tree (filter (is_at place fabric) s.rows)
of_rows fabric place apart s = rw apart refl

-- the first of values that are set is that of the rows of them
first_is : (place : Place) (values : List Value) → single_in place (map (row_at place 0) values) ≡ first_kept place values
first_is place [] = refl
first_is place (value ∷ values) = refl

module _ (sets : SetsInOrder) (keeps : KeepsOthers) (steps : List NodeStep) (s : NodeState) (valid : IsValid s) (settings : list_all is_setting_step steps ≡ true) where
  module _ (behind : IsValid (after_all None steps s)) (place : Place) (listed : list_any (same_place place) single_places ≡ true) where
    single : IsSingle place
    single = each_found IsSingle place single_places are_single listed

    -- what the latest of the steps sets there, or what stood there
    single_behind : (set : Option (List Value)) → latest (row_set place 0) None steps ≡ set
        → single_value place (after_all None steps s).rows ≡ single_in place (or_stored place 0 set (filter (stands_at place) s.rows))
    single_behind set is =
        ap (single_in place) (are_nobodys (after_all None steps s) behind place single
        ∙ rows_behind sets keeps place 0 steps s valid.rows_rise settings
        ∙ (λ i. or_stored place 0 (is i) (sym (are_nobodys s valid place single) i)))

    -- where no step sets it
    pub single_stays : None ≡ latest (row_set place 0) None steps → single_value place s.rows ≡ single_value place (after_all None steps s).rows
    single_stays is = sym (single_behind None (sym is))

    -- where one does
    pub single_set : (values : List Value) → Some values ≡ latest (row_set place 0) None steps → first_kept place values ≡ single_value place (after_all None steps s).rows
    single_set values is = sym (single_behind (Some values) (sym is) ∙ first_is place values)

  -- Items that are rows.
  module _ (fabric : ℕ) (place : Place) (apart : same_place place acl_place ≡ false) where
    items_behind : (set : Option (List Value)) → latest (row_set place fabric) None steps ≡ set
        → items_value fabric place (after_all None steps s) ≡ array_if row_tree (or_stored place fabric set (filter (is_at place fabric) s.rows))
    items_behind set is =
        of_rows fabric place apart (after_all None steps s)
        ∙ ap (array_if row_tree) (rows_behind sets keeps place fabric steps s valid.rows_rise settings
        ∙ ap (λ (o : Option (List Value)). or_stored place fabric o (filter (is_at place fabric) s.rows)) is)

    -- where no step sets them
    pub items_stay : None ≡ latest (row_set place fabric) None steps → items_value fabric place s ≡ items_value fabric place (after_all None steps s)
    items_stay is = of_rows fabric place apart s ∙ sym (items_behind None (sym is))

    -- rows and their values make the same array
    same_elements : (values : List Value) → untagged row_tree (map (row_at place fabric) values) ≡ untagged tree values
    same_elements [] = refl
    same_elements (value ∷ values) = ap (λ (es : Elements). more Anonymous (tree value) es) (same_elements values)

    same_array : (values : List Value) → array_if row_tree (map (row_at place fabric) values) ≡ array_if tree values
    same_array [] = refl
    same_array (value ∷ values) = ap (λ (es : Elements). Some (Array es)) (same_elements (value ∷ values))

    -- where one does
    pub items_set : (values : List Value) → Some values ≡ latest (row_set place fabric) None steps → array_if tree values ≡ items_value fabric place (after_all None steps s)
    items_set values is = sym (items_behind (Some values) (sym is) ∙ same_array values)

-- Items that are entries.
module _ (sets : SetsEntriesInOrder) (keeps : KeepsOtherEntries) (steps : List NodeStep) (s : NodeState) (valid : IsValid s) (settings : list_all is_setting_step steps ≡ true) (fabric : ℕ) where
  pub entries_stay : None ≡ latest (entries_set fabric) None steps → items_value fabric acl_place s ≡ items_value fabric acl_place (after_all None steps s)
  entries_stay is =
      ap (array_if entry_tree) (sym (entries_behind sets keeps fabric steps s (up_from_none s valid) settings
      ∙ ap (λ (o : Option (List AclEntry)). unwrap_or o (filter (is_entry_of fabric) s.entries)) (sym is)))

  pub entries_set_there : (new : List AclEntry) → Some new ≡ latest (entries_set fabric) None steps → array_if entry_tree new ≡ items_value fabric acl_place (after_all None steps s)
  entries_set_there new is =
      ap (array_if entry_tree) (sym (entries_behind sets keeps fabric steps s (up_from_none s valid) settings
      ∙ ap (λ (o : Option (List AclEntry)). unwrap_or o (filter (is_entry_of fabric) s.entries)) (sym is)))
