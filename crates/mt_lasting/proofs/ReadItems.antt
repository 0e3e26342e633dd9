-- A fabric's items of a list are read as they were written.
use Rattle.std.proofs.Common.{◌≡◌, ◌∙◌, refl, sym, ap, ℕ, ◌&&◌, ◌==◌, nat_le, Bool, true, false, List, ◌∷◌, Some, length}
use Rattle.std.proofs.lemmas.Bool.{and_parts, eqb-true}
use Rattle.std.specs.List.{list_all}
use Rattle.mt_tlv.specs.View.{tree}
use Rattle.mt_tlv.specs.declared.value.Value.{Value}
use Rattle.mt_tlv.specs.declared.value.Value.TheVariants as values
use Rattle.mt_model.specs.Trees.{array_of}
use Rattle.mt_model.specs.rows.Order.{row_at}
use Rattle.mt_model.specs.rows.Setting.{is_at}
use Rattle.mt_model.specs.rows.Sight.{same_place}
use Rattle.mt_model.specs.declared.rows.place.Place.{Place}
use Rattle.mt_model.specs.declared.rows.place.Row.{Row}
use Rattle.mt_meta.specs.Forms.{has_form, is_of_kind}
use Rattle.mt_meta.specs.declared.meta.Kind.{Kind}
use Rattle.mt_meta.specs.declared.meta.Kind.TheVariants as kinds
use Rattle.mt_meta.specs.declared.meta.Meta.{Meta}
use Rattle.mt_grammar.specs.Values.{if_few, item_in, items_in}
use Rattle.mt_lasting.specs.Values.{row_tree}
use Rattle.mt_lasting.proofs.Lists.{place-same}
use Rattle.mt_lasting.proofs.ReadLists.{some_read}

-- a row of a place and a fabric
pub row-itself : (place : Place) (fabric : ℕ) (row : Row) → is_at place fabric row ≡ true → row_at place fabric row.value ≡ row
row-itself place fabric row at =
    let parts = and_parts (same_place row.place place) (row.fabric == fabric) at in
    let there = place-same row.place place parts.0 in
    let its = eqb-true row.fabric fabric parts.1 in
    λ i. record { place = sym there i; fabric = sym its i; value = row.value }

abbrev pub is_struct : Value → Bool
is_struct (values.Struct es) = true
is_struct value = false

-- of these kinds is no other value
abbrev pub AreStructs : Kind → Type 0
AreStructs kind = (least limit fabric : ℕ) (value : Value) → is_of_kind kind least limit fabric value ≡ true → is_struct value ≡ true

pub map_structs : AreStructs kinds.GroupKeyMap
map_structs least limit fabric (values.Int z) form = form
map_structs least limit fabric (values.Uint n) form = form
map_structs least limit fabric (values.Bool b) form = form
map_structs least limit fabric (values.Text t) form = form
map_structs least limit fabric (values.Octets t) form = form
map_structs least limit fabric values.Null form = form
map_structs least limit fabric (values.Bits32 n) form = form
map_structs least limit fabric (values.Bits64 n) form = form
map_structs least limit fabric (values.Struct es) form = refl
map_structs least limit fabric (values.Array es) form = form
map_structs least limit fabric (values.List es) form = form

pub set_structs : AreStructs kinds.KeySets
set_structs least limit fabric (values.Int z) form = form
set_structs least limit fabric (values.Uint n) form = form
set_structs least limit fabric (values.Bool b) form = form
set_structs least limit fabric (values.Text t) form = form
set_structs least limit fabric (values.Octets t) form = form
set_structs least limit fabric values.Null form = form
set_structs least limit fabric (values.Bits32 n) form = form
set_structs least limit fabric (values.Bits64 n) form = form
set_structs least limit fabric (values.Struct es) form = refl
set_structs least limit fabric (values.Array es) form = form
set_structs least limit fabric (values.List es) form = form

pub binding_structs : AreStructs kinds.Binding
binding_structs least limit fabric (values.Int z) form = form
binding_structs least limit fabric (values.Uint n) form = form
binding_structs least limit fabric (values.Bool b) form = form
binding_structs least limit fabric (values.Text t) form = form
binding_structs least limit fabric (values.Octets t) form = form
binding_structs least limit fabric values.Null form = form
binding_structs least limit fabric (values.Bits32 n) form = form
binding_structs least limit fabric (values.Bits64 n) form = form
binding_structs least limit fabric (values.Struct es) form = refl
binding_structs least limit fabric (values.Array es) form = form
binding_structs least limit fabric (values.List es) form = form

pub bench_structs : AreStructs kinds.Bench
bench_structs least limit fabric (values.Int z) form = form
bench_structs least limit fabric (values.Uint n) form = form
bench_structs least limit fabric (values.Bool b) form = form
bench_structs least limit fabric (values.Text t) form = form
bench_structs least limit fabric (values.Octets t) form = form
bench_structs least limit fabric values.Null form = form
bench_structs least limit fabric (values.Bits32 n) form = form
bench_structs least limit fabric (values.Bits64 n) form = form
bench_structs least limit fabric (values.Struct es) form = refl
bench_structs least limit fabric (values.Array es) form = form
bench_structs least limit fabric (values.List es) form = form

module _ (place : Place) (fabric : ℕ) (meta : Meta) (structs : AreStructs meta.kind) where
  value_again : (value : Value) → is_struct value ≡ true → has_form meta fabric value ≡ true → item_in place fabric meta (tree value) ≡ Some (row_at place fabric value)
  value_again (values.Int z) is form = absurd cc
  value_again (values.Uint n) is form = absurd cc
  value_again (values.Bool b) is form = absurd cc
  value_again (values.Text t) is form = absurd cc
  value_again (values.Octets t) is form = absurd cc
  value_again values.Null is form = absurd cc
  value_again (values.Bits32 n) is form = absurd cc
  value_again (values.Bits64 n) is form = absurd cc
  value_again (values.Struct es) is form = rw form refl
  value_again (values.Array es) is form = absurd cc
  value_again (values.List es) is form = absurd cc

  -- an item of the fabric, of the form of the list
  abbrev pub is_formed : Row → Bool
  is_formed row = is_at place fabric row && has_form meta fabric row.value

  item_again : (row : Row) → is_formed row ≡ true → item_in place fabric meta (row_tree row) ≡ Some row
  item_again row is =
      let parts = and_parts (is_at place fabric row) (has_form meta fabric row.value) is in
      value_again row.value (structs meta.least meta.limit fabric row.value parts.1) parts.1 ∙ ap Some (row-itself place fabric row parts.0)

  pub items_read : (row : Row) (rows : List Row) → list_all is_formed (row ∷ rows) ≡ true → nat_le (length (row ∷ rows)) meta.limit ≡ true
      → items_in place fabric meta (tree (array_of row_tree (row ∷ rows))) ≡ Some (row ∷ rows)
  items_read row rows all few = ap (if_few meta.limit) (some_read (item_in place fabric meta) row_tree is_formed item_again row rows all) ∙ rw few refl
