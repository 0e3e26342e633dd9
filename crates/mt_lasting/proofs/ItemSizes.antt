-- How many bytes a fabric's items of a list take at most.
use Rattle.std.proofs.Common.{◌≡◌, ◌∙◌, ap, sym, refl, ℕ, ◌+◌, ◌≤◌, ◌==◌, ◌&&◌, nat_le, if◌then◌else◌, Bool, true, false, filter, length, arith}
use Rattle.std.proofs.lemmas.Bool.{and_parts, leb-true}
use Rattle.std.specs.List.{list_all}
use Rattle.mt_tlv.specs.Tree.{structure, Elements}
use Rattle.mt_tlv.specs.View.{tree}
use Rattle.mt_tlv.specs.declared.value.Value.{Value}
use Rattle.mt_tlv.specs.declared.value.Value.TheVariants as values
use Rattle.mt_model.specs.rows.Setting.{is_at}
use Rattle.mt_model.specs.declared.node.state.NodeState.{NodeState}
use Rattle.mt_model.specs.declared.rows.place.Place.{Place}
use Rattle.mt_model.specs.declared.rows.place.Row.{Row}
use Rattle.mt_model.specs.tables.KeySets.{is_key_set}
use Rattle.mt_meta.specs.Fields.{is_kept_item}
use Rattle.mt_meta.specs.Finding.{find_data_of}
use Rattle.mt_meta.specs.Forms.{has_form, is_of_kind}
use Rattle.mt_meta.specs.Table.{attributes_of, clusters_of, endpoints, extensions_of, fields_of, globals}
use Rattle.mt_meta.specs.declared.meta.Kind.{Kind}
use Rattle.mt_meta.specs.declared.meta.Kind.TheVariants as kinds
use Rattle.mt_meta.specs.declared.meta.Meta.{Meta}
use Rattle.mt_machine.specs.State.{IsValid}
use Rattle.mt_lasting.specs.Keys.{item_places}
use Rattle.mt_lasting.specs.Laws.{is_ok_and}
use Rattle.mt_lasting.specs.Values.{items_value, row_tree}
use Rattle.mt_lasting.proofs.FieldSizes.{fields_size, is_sized_field, item_size}
use Rattle.mt_lasting.proofs.Folding.{Each}
use Rattle.mt_lasting.proofs.ItemFacts.{IsItems}
use Rattle.mt_lasting.proofs.NumberSizes.{array_size, times}
use Rattle.mt_lasting.proofs.ReadItems.{AreStructs, is_formed, is_struct}
use Rattle.mt_lasting.proofs.TreeSizes.{number_size, size, value_size}
use Rattle.mt_lasting.proofs.Valid.{items_few, items_formed}

-- the kinds of rows that are items
abbrev pub is_row_kind : Kind → Bool
is_row_kind kinds.Binding = true
is_row_kind kinds.Bench = true
is_row_kind kinds.GroupKeyMap = true
is_row_kind kinds.KeySets = true
is_row_kind kind = false

pub fields_kept : (kind : Kind) (least limit fabric : ℕ) (es : Elements) → is_row_kind kind ≡ true → is_of_kind kind least limit fabric (values.Struct es) ≡ true
    → is_kept_item (fields_of kind) fabric (structure es) ≡ true
fields_kept kinds.Bool least limit fabric es row form = absurd cc
fields_kept kinds.Uint least limit fabric es row form = absurd cc
fields_kept kinds.Uint32 least limit fabric es row form = absurd cc
fields_kept kinds.NullableUint least limit fabric es row form = absurd cc
fields_kept kinds.NullableOctets least limit fabric es row form = absurd cc
fields_kept kinds.Null least limit fabric es row form = absurd cc
fields_kept kinds.Text least limit fabric es row form = absurd cc
fields_kept kinds.Numbers least limit fabric es row form = absurd cc
fields_kept kinds.Structure least limit fabric es row form = absurd cc
fields_kept kinds.DeviceTypes least limit fabric es row form = absurd cc
fields_kept kinds.Binding least limit fabric es row form = form
fields_kept kinds.Acl least limit fabric es row form = absurd cc
fields_kept kinds.Networks least limit fabric es row form = absurd cc
fields_kept kinds.Nocs least limit fabric es row form = absurd cc
fields_kept kinds.Fabrics least limit fabric es row form = absurd cc
fields_kept kinds.Roots least limit fabric es row form = absurd cc
fields_kept kinds.Labels least limit fabric es row form = absurd cc
fields_kept kinds.Bench least limit fabric es row form = form
fields_kept kinds.GroupKeyMap least limit fabric es row form = form
fields_kept kinds.GroupTable least limit fabric es row form = absurd cc
fields_kept kinds.KeySets least limit fabric es row form = (and_parts (is_key_set es) (is_kept_item (fields_of kinds.KeySets) fabric (structure es)) form).1

-- the most bytes of one item
abbrev item_most : Meta → ℕ
item_most meta = fields_size (fields_of meta.kind) + 1

-- what is asked of the table: as many items as there may be take no more than so many bytes
abbrev pub is_bounded : ℕ → Meta → Bool
is_bounded bound meta = is_row_kind meta.kind && (list_all is_sized_field (fields_of meta.kind) && nat_le (times meta.limit (1 + item_most meta)) bound)

abbrev pub items_bound : Place → ℕ
items_bound place = if place.cluster == 0x1f then 428
    else if place.cluster == 0x1e then 200
    else if place.cluster == 0xfff1fc00 then 856
    else if place.leaf == 0 then 52
    else 318

abbrev pub AreBounded : Place → Type 0
AreBounded place = is_ok_and (is_bounded (items_bound place)) (find_data_of place) ≡ true

pub all_bounded : Each AreBounded item_places
unfolding endpoints clusters_of attributes_of globals extensions_of fields_of
all_bounded = (refl, (refl, (refl, (refl, refl))))

module _ (fabric : ℕ) (small : number_size fabric ≤ 1) (meta : Meta) (row : is_row_kind meta.kind ≡ true) (sized : list_all is_sized_field (fields_of meta.kind) ≡ true) where
  struct_size : (value : Value) → is_struct value ≡ true → has_form meta fabric value ≡ true → size (tree value) ≤ item_most meta
  struct_size (values.Int z) is form = absurd cc
  struct_size (values.Uint n) is form = absurd cc
  struct_size (values.Bool b) is form = absurd cc
  struct_size (values.Text s) is form = absurd cc
  struct_size (values.Octets s) is form = absurd cc
  struct_size values.Null is form = absurd cc
  struct_size (values.Bits32 n) is form = absurd cc
  struct_size (values.Bits64 n) is form = absurd cc
  struct_size (values.Struct es) is form = item_size fabric small (fields_of meta.kind) (structure es) sized (fields_kept meta.kind meta.least meta.limit fabric es row form)
  struct_size (values.Array es) is form = absurd cc
  struct_size (values.List es) is form = absurd cc

  module _ (place : Place) (structs : AreStructs meta.kind) where
    row_size : (row : Row) → is_formed place fabric meta structs row ≡ true → size (row_tree row) ≤ item_most meta
    row_size row formed =
        let form = (and_parts (is_at place fabric row) (has_form meta fabric row.value) formed).1 in
        struct_size row.value (structs meta.least meta.limit fabric row.value form) form

pub items_size : (s : NodeState) → IsValid s → (fabric : ℕ) → number_size fabric ≤ 1 → (place : Place) → IsItems place → AreBounded place → value_size (items_value fabric place s) ≤ 3 + items_bound place
items_size s valid fabric small place facts few =
    let meta = facts.meta in
    let bounded : is_bounded (items_bound place) meta ≡ true = ap (is_ok_and (is_bounded (items_bound place))) (sym facts.is_data) ∙ few in
    let parts = and_parts (is_row_kind meta.kind) _ bounded in
    let rest = and_parts (list_all is_sized_field (fields_of meta.kind)) (nat_le (times meta.limit (1 + item_most meta)) (items_bound place)) parts.1 in
    let most : times meta.limit (1 + item_most meta) ≤ items_bound place = leb-true _ _ rest.1 in
    let count : length (filter (is_at place fabric) s.rows) ≤ meta.limit = leb-true _ _ (items_few s valid fabric place facts) in
    let all = array_size row_tree (is_formed place fabric meta facts.structs) (item_most meta) (row_size fabric small meta parts.0 rest.0 place facts.structs) meta.limit (filter (is_at place fabric) s.rows) count (items_formed s valid fabric place facts) in
    rw facts.no_entries (omega (arith, all, most))
