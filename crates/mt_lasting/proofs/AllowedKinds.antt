-- A value of a kind may stand in an element, of those kinds that an attribute with one value has.
use Rattle.std.proofs.Common.{◌≡◌, refl, ℕ, suc, ◌<◌, ◌≤◌, ◌^◌, ◌&&◌, nat_le, nat_lt, Bool, true, false, List, [], ◌∷◌, ◌++◌, length, arith}
use Rattle.std.proofs.lemmas.Bool.{and_parts, leb-true, ltb-true}
use Rattle.std.specs.Str.{is_utf8}
use Rattle.mt_tlv.specs.Limits.{AreAllowed, IsAllowed, longest}
use Rattle.mt_tlv.specs.Tree.{Elements, none, more}
use Rattle.mt_tlv.specs.View.{tree}
use Rattle.mt_tlv.specs.declared.reading.Kind.TheVariants as containers
use Rattle.mt_tlv.specs.declared.value.Tag.{Tag}
use Rattle.mt_tlv.specs.declared.value.Tag.TheVariants.{Anonymous, Context, Common, Implicit, Full}
use Rattle.mt_tlv.specs.declared.value.Value.{Value}
use Rattle.mt_tlv.specs.declared.value.Value.TheVariants as values
use Rattle.mt_meta.specs.Forms.{all_in, count_in, is_label_item, is_of_kind}
use Rattle.mt_meta.specs.Table.{fields_of}
use Rattle.mt_meta.specs.declared.meta.Kind.{Kind}
use Rattle.mt_meta.specs.declared.meta.Kind.TheVariants as kinds
use Rattle.mt_lasting.proofs.AllowedFields.{are_bounding, item_allowed}
use Rattle.mt_lasting.proofs.AllowedTrees.{string_allowed}

-- what is asked of the table: numbers, truth values, texts within the limit of elements, or labels
abbrev pub is_bounding_kind : Kind → ℕ → Bool
is_bounding_kind kinds.Bool limit = true
is_bounding_kind kinds.Uint limit = true
is_bounding_kind kinds.Uint32 limit = true
is_bounding_kind kinds.Text limit = nat_le limit longest
is_bounding_kind kinds.Labels limit = are_bounding 0 (fields_of kinds.Labels)
is_bounding_kind kind limit = false

labels_allowed : (room : ℕ) → are_bounding 0 (fields_of kinds.Labels) ≡ true → (es : Elements) (tags : List Tag) → all_in is_label_item es ≡ true → AreAllowed es containers.Array tags (suc room)
labels_allowed room bounding none tags all = tt
labels_allowed room bounding (more Anonymous v es) tags all =
    let both = and_parts (is_label_item v) (all_in is_label_item es) all in
    (tt, refl, item_allowed 0 (omega arith) room (fields_of kinds.Labels) v bounding both.0, labels_allowed room bounding es (tags ++ Anonymous ∷ []) both.1)
labels_allowed room bounding (more (Context n) v es) tags all = absurd cc
labels_allowed room bounding (more (Common n) v es) tags all = absurd cc
labels_allowed room bounding (more (Implicit n) v es) tags all = absurd cc
labels_allowed room bounding (more (Full a p n) v es) tags all = absurd cc

text_allowed : (least limit : ℕ) (s : List ℕ) → nat_le limit longest ≡ true → (nat_le least (length s) && nat_le (length s) limit && is_utf8 s) ≡ true → (length s ≤ longest) × (is_utf8 s ≡ true)
text_allowed least limit s bounding form =
    let outer = and_parts (nat_le least (length s) && nat_le (length s) limit) (is_utf8 s) form in
    (string_allowed limit s (leb-true limit longest bounding) (and_parts (nat_le least (length s)) (nat_le (length s) limit) outer.0).1, outer.1)

wide_allowed : (n : ℕ) → nat_lt n (2 ^ 32) ≡ true → n < 2 ^ 64
wide_allowed n fits = omega (arith, ltb-true n (2 ^ 32) fits)

pub kind_allowed : (kind : Kind) (least limit : ℕ) (value : Value) → is_bounding_kind kind limit ≡ true → is_of_kind kind least limit 0 value ≡ true → IsAllowed (tree value) 14
kind_allowed kinds.Bool least limit (values.Int z) bounding form = absurd cc
kind_allowed kinds.Bool least limit (values.Uint n) bounding form = absurd cc
kind_allowed kinds.Bool least limit (values.Bool b) bounding form = tt
kind_allowed kinds.Bool least limit (values.Text s) bounding form = absurd cc
kind_allowed kinds.Bool least limit (values.Octets s) bounding form = absurd cc
kind_allowed kinds.Bool least limit values.Null bounding form = absurd cc
kind_allowed kinds.Bool least limit (values.Bits32 n) bounding form = absurd cc
kind_allowed kinds.Bool least limit (values.Bits64 n) bounding form = absurd cc
kind_allowed kinds.Bool least limit (values.Struct es) bounding form = absurd cc
kind_allowed kinds.Bool least limit (values.Array es) bounding form = absurd cc
kind_allowed kinds.Bool least limit (values.List es) bounding form = absurd cc
kind_allowed kinds.Uint least limit (values.Int z) bounding form = absurd cc
kind_allowed kinds.Uint least limit (values.Uint n) bounding form = ltb-true n (2 ^ 64) form
kind_allowed kinds.Uint least limit (values.Bool b) bounding form = absurd cc
kind_allowed kinds.Uint least limit (values.Text s) bounding form = absurd cc
kind_allowed kinds.Uint least limit (values.Octets s) bounding form = absurd cc
kind_allowed kinds.Uint least limit values.Null bounding form = absurd cc
kind_allowed kinds.Uint least limit (values.Bits32 n) bounding form = absurd cc
kind_allowed kinds.Uint least limit (values.Bits64 n) bounding form = absurd cc
kind_allowed kinds.Uint least limit (values.Struct es) bounding form = absurd cc
kind_allowed kinds.Uint least limit (values.Array es) bounding form = absurd cc
kind_allowed kinds.Uint least limit (values.List es) bounding form = absurd cc
kind_allowed kinds.Uint32 least limit (values.Int z) bounding form = absurd cc
kind_allowed kinds.Uint32 least limit (values.Uint n) bounding form = wide_allowed n form
kind_allowed kinds.Uint32 least limit (values.Bool b) bounding form = absurd cc
kind_allowed kinds.Uint32 least limit (values.Text s) bounding form = absurd cc
kind_allowed kinds.Uint32 least limit (values.Octets s) bounding form = absurd cc
kind_allowed kinds.Uint32 least limit values.Null bounding form = absurd cc
kind_allowed kinds.Uint32 least limit (values.Bits32 n) bounding form = absurd cc
kind_allowed kinds.Uint32 least limit (values.Bits64 n) bounding form = absurd cc
kind_allowed kinds.Uint32 least limit (values.Struct es) bounding form = absurd cc
kind_allowed kinds.Uint32 least limit (values.Array es) bounding form = absurd cc
kind_allowed kinds.Uint32 least limit (values.List es) bounding form = absurd cc
kind_allowed kinds.NullableUint least limit value bounding form = absurd cc
kind_allowed kinds.NullableOctets least limit value bounding form = absurd cc
kind_allowed kinds.Null least limit value bounding form = absurd cc
kind_allowed kinds.Text least limit (values.Int z) bounding form = absurd cc
kind_allowed kinds.Text least limit (values.Uint n) bounding form = absurd cc
kind_allowed kinds.Text least limit (values.Bool b) bounding form = absurd cc
kind_allowed kinds.Text least limit (values.Text s) bounding form = text_allowed least limit s bounding form
kind_allowed kinds.Text least limit (values.Octets s) bounding form = absurd cc
kind_allowed kinds.Text least limit values.Null bounding form = absurd cc
kind_allowed kinds.Text least limit (values.Bits32 n) bounding form = absurd cc
kind_allowed kinds.Text least limit (values.Bits64 n) bounding form = absurd cc
kind_allowed kinds.Text least limit (values.Struct es) bounding form = absurd cc
kind_allowed kinds.Text least limit (values.Array es) bounding form = absurd cc
kind_allowed kinds.Text least limit (values.List es) bounding form = absurd cc
kind_allowed kinds.Numbers least limit value bounding form = absurd cc
kind_allowed kinds.Structure least limit value bounding form = absurd cc
kind_allowed kinds.DeviceTypes least limit value bounding form = absurd cc
kind_allowed kinds.Binding least limit value bounding form = absurd cc
kind_allowed kinds.Acl least limit value bounding form = absurd cc
kind_allowed kinds.Networks least limit value bounding form = absurd cc
kind_allowed kinds.Nocs least limit value bounding form = absurd cc
kind_allowed kinds.Fabrics least limit value bounding form = absurd cc
kind_allowed kinds.Roots least limit value bounding form = absurd cc
kind_allowed kinds.Labels least limit (values.Int z) bounding form = absurd cc
kind_allowed kinds.Labels least limit (values.Uint n) bounding form = absurd cc
kind_allowed kinds.Labels least limit (values.Bool b) bounding form = absurd cc
kind_allowed kinds.Labels least limit (values.Text s) bounding form = absurd cc
kind_allowed kinds.Labels least limit (values.Octets s) bounding form = absurd cc
kind_allowed kinds.Labels least limit values.Null bounding form = absurd cc
kind_allowed kinds.Labels least limit (values.Bits32 n) bounding form = absurd cc
kind_allowed kinds.Labels least limit (values.Bits64 n) bounding form = absurd cc
kind_allowed kinds.Labels least limit (values.Struct es) bounding form = absurd cc
kind_allowed kinds.Labels least limit (values.Array es) bounding form = labels_allowed 12 bounding es [] (and_parts (nat_le (count_in es) limit) (all_in is_label_item es) form).1
kind_allowed kinds.Labels least limit (values.List es) bounding form = absurd cc
kind_allowed kinds.Bench least limit value bounding form = absurd cc
kind_allowed kinds.GroupKeyMap least limit value bounding form = absurd cc
kind_allowed kinds.GroupTable least limit value bounding form = absurd cc
kind_allowed kinds.KeySets least limit value bounding form = absurd cc
