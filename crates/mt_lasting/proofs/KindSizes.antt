-- How many bytes a value of a kind takes at most, of those kinds that an attribute with one value has.
use Rattle.std.proofs.Common.{◌≡◌, ℕ, zero, suc, ◌≤◌, ◌&&◌, nat_le, Bool, true, false, List, length, arith}
use Rattle.std.proofs.lemmas.Bool.{and_parts, le-leb, leb-true}
use Rattle.std.specs.List.{list_all}
use Rattle.std.specs.Str.{is_utf8}
use Rattle.mt_tlv.specs.Tree.{Elements, none, more}
use Rattle.mt_tlv.specs.View.{tree}
use Rattle.mt_tlv.specs.declared.value.Tag.TheVariants.{Anonymous, Context, Common, Implicit, Full}
use Rattle.mt_tlv.specs.declared.value.Value.{Value}
use Rattle.mt_tlv.specs.declared.value.Value.TheVariants as values
use Rattle.mt_meta.specs.Forms.{all_in, count_in, is_label_item, is_of_kind}
use Rattle.mt_meta.specs.Table.{fields_of}
use Rattle.mt_meta.specs.declared.meta.Kind.{Kind}
use Rattle.mt_meta.specs.declared.meta.Kind.TheVariants as kinds
use Rattle.mt_lasting.proofs.FieldSizes.{fields_size, is_sized_field, item_size}
use Rattle.mt_lasting.proofs.NumberSizes.{in_eight, in_one, string_within, times}
use Rattle.mt_lasting.proofs.TreeSizes.{size, sizes}

abbrev are_short_labels : Bool
are_short_labels = list_all is_sized_field (fields_of kinds.Labels) && nat_le (fields_size (fields_of kinds.Labels)) 38

-- what is asked of the table: numbers, truth values, short texts or few labels
abbrev pub is_short_kind : Kind → ℕ → Bool
is_short_kind kinds.Bool limit = true
is_short_kind kinds.Uint limit = true
is_short_kind kinds.Uint32 limit = true
is_short_kind kinds.Text limit = nat_le limit 0xff
is_short_kind kinds.Labels limit = nat_le limit 8 && are_short_labels
is_short_kind kind limit = false

labels_size : are_short_labels ≡ true → (k : ℕ) (es : Elements) → count_in es ≤ k → all_in is_label_item es ≡ true → sizes es ≤ times k 40
labels_size short k none few all = omega arith
labels_size short zero (more tag v es) few all = absurd (omega (arith, few))
labels_size short (suc k) (more Anonymous v es) few all =
    let parts = and_parts (list_all is_sized_field (fields_of kinds.Labels)) (nat_le (fields_size (fields_of kinds.Labels)) 38) short in
    let both = and_parts (is_label_item v) (all_in is_label_item es) all in
    omega (arith, item_size 0 (in_one 0 (omega arith)) (fields_of kinds.Labels) v parts.0 both.0, leb-true _ _ parts.1, labels_size short k es (omega (arith, few)) both.1)
labels_size short (suc k) (more (Context n) v es) few all = absurd cc
labels_size short (suc k) (more (Common n) v es) few all = absurd cc
labels_size short (suc k) (more (Implicit n) v es) few all = absurd cc
labels_size short (suc k) (more (Full a p n) v es) few all = absurd cc

text_size : (least limit : ℕ) (s : List ℕ) → nat_le limit 0xff ≡ true → (nat_le least (length s) && nat_le (length s) limit && is_utf8 s) ≡ true → size (tree (values.Text s)) ≤ 321
text_size least limit s short form =
    let outer = and_parts (nat_le least (length s) && nat_le (length s) limit) (is_utf8 s) form in
    let fits = leb-true _ _ (and_parts (nat_le least (length s)) (nat_le (length s) limit) outer.0).1 in
    omega (arith, string_within 0xff (length s) (le-leb (length s) 0xff (omega (arith, fits, leb-true _ _ short))))

list_size : (limit : ℕ) (es : Elements) → (nat_le limit 8 && are_short_labels) ≡ true → (nat_le (count_in es) limit && all_in is_label_item es) ≡ true → size (tree (values.Array es)) ≤ 321
list_size limit es short form =
    let parts = and_parts (nat_le limit 8) are_short_labels short in
    let both = and_parts (nat_le (count_in es) limit) (all_in is_label_item es) form in
    omega (arith, labels_size parts.1 8 es (omega (arith, leb-true _ _ parts.0, leb-true _ _ both.0)) both.1)

pub kind_size : (kind : Kind) (least limit : ℕ) (value : Value) → is_short_kind kind limit ≡ true → is_of_kind kind least limit 0 value ≡ true → size (tree value) ≤ 321
kind_size kinds.Bool least limit (values.Int z) short form = absurd cc
kind_size kinds.Bool least limit (values.Uint n) short form = absurd cc
kind_size kinds.Bool least limit (values.Bool b) short form = omega arith
kind_size kinds.Bool least limit (values.Text s) short form = absurd cc
kind_size kinds.Bool least limit (values.Octets s) short form = absurd cc
kind_size kinds.Bool least limit values.Null short form = absurd cc
kind_size kinds.Bool least limit (values.Bits32 n) short form = absurd cc
kind_size kinds.Bool least limit (values.Bits64 n) short form = absurd cc
kind_size kinds.Bool least limit (values.Struct es) short form = absurd cc
kind_size kinds.Bool least limit (values.Array es) short form = absurd cc
kind_size kinds.Bool least limit (values.List es) short form = absurd cc
kind_size kinds.Uint least limit (values.Int z) short form = absurd cc
kind_size kinds.Uint least limit (values.Uint n) short form = omega (arith, in_eight n)
kind_size kinds.Uint least limit (values.Bool b) short form = absurd cc
kind_size kinds.Uint least limit (values.Text s) short form = absurd cc
kind_size kinds.Uint least limit (values.Octets s) short form = absurd cc
kind_size kinds.Uint least limit values.Null short form = absurd cc
kind_size kinds.Uint least limit (values.Bits32 n) short form = absurd cc
kind_size kinds.Uint least limit (values.Bits64 n) short form = absurd cc
kind_size kinds.Uint least limit (values.Struct es) short form = absurd cc
kind_size kinds.Uint least limit (values.Array es) short form = absurd cc
kind_size kinds.Uint least limit (values.List es) short form = absurd cc
kind_size kinds.Uint32 least limit (values.Int z) short form = absurd cc
kind_size kinds.Uint32 least limit (values.Uint n) short form = omega (arith, in_eight n)
kind_size kinds.Uint32 least limit (values.Bool b) short form = absurd cc
kind_size kinds.Uint32 least limit (values.Text s) short form = absurd cc
kind_size kinds.Uint32 least limit (values.Octets s) short form = absurd cc
kind_size kinds.Uint32 least limit values.Null short form = absurd cc
kind_size kinds.Uint32 least limit (values.Bits32 n) short form = absurd cc
kind_size kinds.Uint32 least limit (values.Bits64 n) short form = absurd cc
kind_size kinds.Uint32 least limit (values.Struct es) short form = absurd cc
kind_size kinds.Uint32 least limit (values.Array es) short form = absurd cc
kind_size kinds.Uint32 least limit (values.List es) short form = absurd cc
kind_size kinds.NullableUint least limit value short form = absurd cc
kind_size kinds.NullableOctets least limit value short form = absurd cc
kind_size kinds.Null least limit value short form = absurd cc
kind_size kinds.Text least limit (values.Int z) short form = absurd cc
kind_size kinds.Text least limit (values.Uint n) short form = absurd cc
kind_size kinds.Text least limit (values.Bool b) short form = absurd cc
kind_size kinds.Text least limit (values.Text s) short form = text_size least limit s short form
kind_size kinds.Text least limit (values.Octets s) short form = absurd cc
kind_size kinds.Text least limit values.Null short form = absurd cc
kind_size kinds.Text least limit (values.Bits32 n) short form = absurd cc
kind_size kinds.Text least limit (values.Bits64 n) short form = absurd cc
kind_size kinds.Text least limit (values.Struct es) short form = absurd cc
kind_size kinds.Text least limit (values.Array es) short form = absurd cc
kind_size kinds.Text least limit (values.List es) short form = absurd cc
kind_size kinds.Numbers least limit value short form = absurd cc
kind_size kinds.Structure least limit value short form = absurd cc
kind_size kinds.DeviceTypes least limit value short form = absurd cc
kind_size kinds.Binding least limit value short form = absurd cc
kind_size kinds.Acl least limit value short form = absurd cc
kind_size kinds.Networks least limit value short form = absurd cc
kind_size kinds.Nocs least limit value short form = absurd cc
kind_size kinds.Fabrics least limit value short form = absurd cc
kind_size kinds.Roots least limit value short form = absurd cc
kind_size kinds.Labels least limit (values.Int z) short form = absurd cc
kind_size kinds.Labels least limit (values.Uint n) short form = absurd cc
kind_size kinds.Labels least limit (values.Bool b) short form = absurd cc
kind_size kinds.Labels least limit (values.Text s) short form = absurd cc
kind_size kinds.Labels least limit (values.Octets s) short form = absurd cc
kind_size kinds.Labels least limit values.Null short form = absurd cc
kind_size kinds.Labels least limit (values.Bits32 n) short form = absurd cc
kind_size kinds.Labels least limit (values.Bits64 n) short form = absurd cc
kind_size kinds.Labels least limit (values.Struct es) short form = absurd cc
kind_size kinds.Labels least limit (values.Array es) short form = list_size limit es short form
kind_size kinds.Labels least limit (values.List es) short form = absurd cc
kind_size kinds.Bench least limit value short form = absurd cc
kind_size kinds.GroupKeyMap least limit value short form = absurd cc
kind_size kinds.GroupTable least limit value short form = absurd cc
kind_size kinds.KeySets least limit value short form = absurd cc
