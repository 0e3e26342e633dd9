-- A fabric's items of a list may stand in an element.
use Rattle.std.proofs.Common.{◌≡◌, ◌∙◌, ap, sym, refl, ℕ, ◌<◌, ◌^◌, ◌&&◌, Bool, true, filter}
use Rattle.std.proofs.lemmas.Bool.{and_parts}
use Rattle.mt_tlv.specs.Limits.{IsAllowed}
use Rattle.mt_tlv.specs.Tree.{structure}
use Rattle.mt_tlv.specs.View.{tree}
use Rattle.mt_tlv.specs.declared.value.Value.{Value}
use Rattle.mt_tlv.specs.declared.value.Value.TheVariants as values
use Rattle.mt_model.specs.rows.Setting.{is_at}
use Rattle.mt_model.specs.declared.node.state.NodeState.{NodeState}
use Rattle.mt_model.specs.declared.rows.place.Place.{Place}
use Rattle.mt_model.specs.declared.rows.place.Row.{Row}
use Rattle.mt_meta.specs.Finding.{find_data_of}
use Rattle.mt_meta.specs.Forms.{has_form}
use Rattle.mt_meta.specs.Table.{attributes_of, clusters_of, endpoints, extensions_of, fields_of, globals}
use Rattle.mt_meta.specs.declared.meta.Meta.{Meta}
use Rattle.mt_machine.specs.State.{IsValid}
use Rattle.mt_lasting.specs.Keys.{item_places}
use Rattle.mt_lasting.specs.Laws.{is_ok_and}
use Rattle.mt_lasting.specs.Values.{items_value, row_tree}
use Rattle.mt_lasting.proofs.AllowedFields.{are_bounding, item_allowed}
use Rattle.mt_lasting.proofs.AllowedTrees.{IsAllowedIf, array_allowed}
use Rattle.mt_lasting.proofs.Folding.{Each}
use Rattle.mt_lasting.proofs.ItemFacts.{IsItems}
use Rattle.mt_lasting.proofs.ItemSizes.{fields_kept, is_row_kind}
use Rattle.mt_lasting.proofs.ReadItems.{AreStructs, is_formed, is_struct}
use Rattle.mt_lasting.proofs.Valid.{items_formed}

-- what is asked of the table
abbrev are_bounding_items : Meta → Bool
are_bounding_items meta = is_row_kind meta.kind && are_bounding 0 (fields_of meta.kind)

abbrev pub BoundsItems : Place → Type 0
BoundsItems place = is_ok_and are_bounding_items (find_data_of place) ≡ true

pub bound_items : Each BoundsItems item_places
unfolding endpoints clusters_of attributes_of globals extensions_of fields_of
bound_items = (refl, (refl, (refl, (refl, refl))))

module _ (fabric : ℕ) (fits : fabric < 2 ^ 64) (meta : Meta) (bounding : are_bounding_items meta ≡ true) where
  struct_allowed : (value : Value) → is_struct value ≡ true → has_form meta fabric value ≡ true → IsAllowed (tree value) 13
  struct_allowed (values.Int z) is form = absurd cc
  struct_allowed (values.Uint n) is form = absurd cc
  struct_allowed (values.Bool b) is form = absurd cc
  struct_allowed (values.Text s) is form = absurd cc
  struct_allowed (values.Octets s) is form = absurd cc
  struct_allowed values.Null is form = absurd cc
  struct_allowed (values.Bits32 n) is form = absurd cc
  struct_allowed (values.Bits64 n) is form = absurd cc
  struct_allowed (values.Struct es) is form =
      let both = and_parts (is_row_kind meta.kind) (are_bounding 0 (fields_of meta.kind)) bounding in
      item_allowed fabric fits 12 (fields_of meta.kind) (structure es) both.1 (fields_kept meta.kind meta.least meta.limit fabric es both.0 form)
  struct_allowed (values.Array es) is form = absurd cc
  struct_allowed (values.List es) is form = absurd cc

  module _ (place : Place) (structs : AreStructs meta.kind) where
    row_allowed : (row : Row) → is_formed place fabric meta structs row ≡ true → IsAllowed (row_tree row) 13
    row_allowed row formed =
        let form = (and_parts (is_at place fabric row) (has_form meta fabric row.value) formed).1 in
        struct_allowed row.value (structs meta.least meta.limit fabric row.value form) form

pub items_allowed : (s : NodeState) → IsValid s → (fabric : ℕ) → fabric < 2 ^ 64 → (place : Place) → IsItems place → BoundsItems place → IsAllowedIf (items_value fabric place s) 14
items_allowed s valid fabric fits place facts bounds =
    let meta = facts.meta in
    let bounding : are_bounding_items meta ≡ true = ap (is_ok_and are_bounding_items) (sym facts.is_data) ∙ bounds in
    let each = row_allowed fabric fits meta bounding place facts.structs in
    rw facts.no_entries
    (array_allowed row_tree (is_formed place fabric meta facts.structs) 13 each (filter (is_at place fabric) s.rows) (items_formed s valid fabric place facts))
