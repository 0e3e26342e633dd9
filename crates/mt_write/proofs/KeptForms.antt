-- Values that pass the tests of their forms are such as a state keeps.
use Rattle.std.proofs.Common.{◌≡◌, ◌==◌, ◌&&◌, ◌||◌, ◌^◌, ◌≤◌, ℕ, nat_le, nat_lt, not, Bool, true, false, List, [], ◌∷◌, ◌++◌, Option, Some, None, option_map, length, refl, if◌then◌else◌, sym, subst, arith}
use Rattle.std.proofs.lemmas.Bool.{eq-eqb, leb-true, le-leb, lt-ltb}
use Rattle.std.specs.List.{list_any}
use Rattle.std.specs.Str.{is_utf8}
use Rattle.mt_tlv.specs.Scalars.{unsigned_in}
use Rattle.mt_tlv.specs.Tree.{Tree, int, uint, bool, text, octets, null, bits32, bits64, structure, array, list, Elements, none, more}
use Rattle.mt_tlv.specs.View.{elements, tree, value_of}
use Rattle.mt_tlv.specs.declared.value.Tag.TheVariants.{Context}
use Rattle.mt_tlv.specs.declared.value.Value.{Value}
use Rattle.mt_tlv.specs.declared.value.Value.TheVariants as values
use Rattle.mt_model.specs.Optional.{is_that}
use Rattle.mt_model.specs.Trees.{field_in, is_context}
use Rattle.mt_meta.specs.Forms.{is_label_item, is_of_kind}
use Rattle.mt_meta.specs.Table.{fields_of}
use Rattle.mt_meta.specs.Writable.{fits_form}
use Rattle.mt_meta.specs.declared.meta.Kind.{Kind}
use Rattle.mt_meta.specs.declared.meta.Kind.TheVariants as kinds
use Rattle.mt_meta.specs.declared.rows.Field.{Field}
use Rattle.mt_meta.specs.declared.rows.Form.{Form}
use Rattle.mt_meta.specs.declared.rows.Form.TheVariants as forms
use Rattle.mt_meta.specs.Fields.{are_kept_fields, are_within, field_has_type, field_is_within, has_type, have_types, is_bool, is_fabric_index, is_item, is_kept_as, is_number, is_text, is_within, may_be_missing, text_fits}
use Rattle.mt_write.specs.Items.{kept_fields, kept_item, kept_value, tagged}

pub and-both : (a b : Bool) → (a && b) ≡ true → (a ≡ true) × (b ≡ true)
and-both true b h = (refl, h)
and-both false b h = absurd cc

pub and-true : (a b : Bool) → a ≡ true → b ≡ true → (a && b) ≡ true
and-true true b p q = q
and-true false b p q = p

-- Widths.

below-64 : (n : ℕ) → nat_le n 0xffffffffffffffff ≡ true → nat_lt n (2 ^ 64) ≡ true
below-64 n h = let b : n ≤ 0xffffffffffffffff = leb-true n 0xffffffffffffffff h in lt-ltb n (2 ^ 64) (omega arith)

below-32 : (n : ℕ) → nat_le n 0xffffffff ≡ true → nat_lt n (2 ^ 32) ≡ true
below-32 n h = let b : n ≤ 0xffffffff = leb-true n 0xffffffff h in lt-ltb n (2 ^ 32) (omega arith)

le-trans : (a b c : ℕ) → nat_le a b ≡ true → nat_le b c ≡ true → nat_le a c ≡ true
le-trans a b c h k = let p : a ≤ b = leb-true a b h in let q : b ≤ c = leb-true b c k in le-leb a c (omega arith)

-- Values that are no lists.

bool-value : (least limit fabric : ℕ) (v : Value) → is_bool (tree v) ≡ true → is_of_kind kinds.Bool least limit fabric v ≡ true
bool-value least limit fabric (values.Int z) typed = typed
bool-value least limit fabric (values.Uint n) typed = typed
bool-value least limit fabric (values.Bool b) typed = refl
bool-value least limit fabric (values.Text s) typed = typed
bool-value least limit fabric (values.Octets s) typed = typed
bool-value least limit fabric values.Null typed = typed
bool-value least limit fabric (values.Bits32 n) typed = typed
bool-value least limit fabric (values.Bits64 n) typed = typed
bool-value least limit fabric (values.Struct es) typed = typed
bool-value least limit fabric (values.Array es) typed = typed
bool-value least limit fabric (values.List es) typed = typed

uint-value : (least limit fabric greatest : ℕ) (v : Value) → nat_le greatest 0xffffffffffffffff ≡ true → is_number greatest (tree v) ≡ true → is_of_kind kinds.Uint least limit fabric v ≡ true
uint-value least limit fabric greatest (values.Int z) fits typed = typed
uint-value least limit fabric greatest (values.Uint n) fits typed = below-64 n (le-trans n greatest 0xffffffffffffffff typed fits)
uint-value least limit fabric greatest (values.Bool b) fits typed = typed
uint-value least limit fabric greatest (values.Text s) fits typed = typed
uint-value least limit fabric greatest (values.Octets s) fits typed = typed
uint-value least limit fabric greatest values.Null fits typed = typed
uint-value least limit fabric greatest (values.Bits32 n) fits typed = typed
uint-value least limit fabric greatest (values.Bits64 n) fits typed = typed
uint-value least limit fabric greatest (values.Struct es) fits typed = typed
uint-value least limit fabric greatest (values.Array es) fits typed = typed
uint-value least limit fabric greatest (values.List es) fits typed = typed

uint32-value : (least limit fabric greatest : ℕ) (v : Value) → nat_le greatest 0xffffffff ≡ true → is_number greatest (tree v) ≡ true → is_of_kind kinds.Uint32 least limit fabric v ≡ true
uint32-value least limit fabric greatest (values.Int z) fits typed = typed
uint32-value least limit fabric greatest (values.Uint n) fits typed = below-32 n (le-trans n greatest 0xffffffff typed fits)
uint32-value least limit fabric greatest (values.Bool b) fits typed = typed
uint32-value least limit fabric greatest (values.Text s) fits typed = typed
uint32-value least limit fabric greatest (values.Octets s) fits typed = typed
uint32-value least limit fabric greatest values.Null fits typed = typed
uint32-value least limit fabric greatest (values.Bits32 n) fits typed = typed
uint32-value least limit fabric greatest (values.Bits64 n) fits typed = typed
uint32-value least limit fabric greatest (values.Struct es) fits typed = typed
uint32-value least limit fabric greatest (values.Array es) fits typed = typed
uint32-value least limit fabric greatest (values.List es) fits typed = typed

text-value : (least limit fabric fewest most : ℕ) (v : Value) → nat_le least fewest ≡ true → nat_le most limit ≡ true → is_text (tree v) ≡ true → text_fits fewest most (tree v) ≡ true → is_of_kind kinds.Text least limit fabric v ≡ true
text-value least limit fabric fewest most (values.Int z) few fits typed within = typed
text-value least limit fabric fewest most (values.Uint n) few fits typed within = typed
text-value least limit fabric fewest most (values.Bool b) few fits typed within = typed
text-value least limit fabric fewest most (values.Text s) few fits typed within =
    let both = and-both (nat_le fewest (length s)) (nat_le (length s) most) within in
    and-true (nat_le least (length s) && nat_le (length s) limit) (is_utf8 s)
    (and-true (nat_le least (length s)) (nat_le (length s) limit) (le-trans least fewest (length s) few both.0) (le-trans (length s) most limit both.1 fits)) typed
text-value least limit fabric fewest most (values.Octets s) few fits typed within = typed
text-value least limit fabric fewest most values.Null few fits typed within = typed
text-value least limit fabric fewest most (values.Bits32 n) few fits typed within = typed
text-value least limit fabric fewest most (values.Bits64 n) few fits typed within = typed
text-value least limit fabric fewest most (values.Struct es) few fits typed within = typed
text-value least limit fabric fewest most (values.Array es) few fits typed within = typed
text-value least limit fabric fewest most (values.List es) few fits typed within = typed

pub value-form : (kind : Kind) (least limit fabric : ℕ) (form : Form) (v : Value) → fits_form kind least limit form ≡ true → has_type form (tree v) ≡ true → is_within form (tree v) ≡ true → is_of_kind kind least limit fabric v ≡ true
value-form kinds.Bool least limit fabric forms.Bool v fits typed within = bool-value least limit fabric v typed
value-form kinds.Bool least limit fabric (forms.Uint greatest) v fits typed within = absurd cc
value-form kinds.Bool least limit fabric (forms.Text fewest most) v fits typed within = absurd cc
value-form kinds.Bool least limit fabric (forms.Octets fewest most) v fits typed within = absurd cc
value-form kinds.Bool least limit fabric forms.Subjects v fits typed within = absurd cc
value-form kinds.Bool least limit fabric forms.Targets v fits typed within = absurd cc
value-form kinds.Bool least limit fabric forms.FabricIndex v fits typed within = absurd cc
value-form kinds.Bool least limit fabric (forms.NullableUint greatest) v fits typed within = absurd cc
value-form kinds.Bool least limit fabric (forms.NullableOctets fewest most) v fits typed within = absurd cc
value-form kinds.Bool least limit fabric forms.Structure v fits typed within = absurd cc
value-form kinds.Uint least limit fabric forms.Bool v fits typed within = absurd cc
value-form kinds.Uint least limit fabric (forms.Uint greatest) v fits typed within = uint-value least limit fabric greatest v fits typed
value-form kinds.Uint least limit fabric (forms.Text fewest most) v fits typed within = absurd cc
value-form kinds.Uint least limit fabric (forms.Octets fewest most) v fits typed within = absurd cc
value-form kinds.Uint least limit fabric forms.Subjects v fits typed within = absurd cc
value-form kinds.Uint least limit fabric forms.Targets v fits typed within = absurd cc
value-form kinds.Uint least limit fabric forms.FabricIndex v fits typed within = absurd cc
value-form kinds.Uint least limit fabric (forms.NullableUint greatest) v fits typed within = absurd cc
value-form kinds.Uint least limit fabric (forms.NullableOctets fewest most) v fits typed within = absurd cc
value-form kinds.Uint least limit fabric forms.Structure v fits typed within = absurd cc
value-form kinds.Uint32 least limit fabric forms.Bool v fits typed within = absurd cc
value-form kinds.Uint32 least limit fabric (forms.Uint greatest) v fits typed within = uint32-value least limit fabric greatest v fits typed
value-form kinds.Uint32 least limit fabric (forms.Text fewest most) v fits typed within = absurd cc
value-form kinds.Uint32 least limit fabric (forms.Octets fewest most) v fits typed within = absurd cc
value-form kinds.Uint32 least limit fabric forms.Subjects v fits typed within = absurd cc
value-form kinds.Uint32 least limit fabric forms.Targets v fits typed within = absurd cc
value-form kinds.Uint32 least limit fabric forms.FabricIndex v fits typed within = absurd cc
value-form kinds.Uint32 least limit fabric (forms.NullableUint greatest) v fits typed within = absurd cc
value-form kinds.Uint32 least limit fabric (forms.NullableOctets fewest most) v fits typed within = absurd cc
value-form kinds.Uint32 least limit fabric forms.Structure v fits typed within = absurd cc
value-form kinds.NullableUint least limit fabric form v fits typed within = absurd cc
value-form kinds.NullableOctets least limit fabric form v fits typed within = absurd cc
value-form kinds.Null least limit fabric form v fits typed within = absurd cc
value-form kinds.Text least limit fabric forms.Bool v fits typed within = absurd cc
value-form kinds.Text least limit fabric (forms.Uint greatest) v fits typed within = absurd cc
value-form kinds.Text least limit fabric (forms.Text fewest most) v fits typed within =
    let both = and-both (nat_le least fewest) (nat_le most limit) fits in
    text-value least limit fabric fewest most v both.0 both.1 typed within
value-form kinds.Text least limit fabric (forms.Octets fewest most) v fits typed within = absurd cc
value-form kinds.Text least limit fabric forms.Subjects v fits typed within = absurd cc
value-form kinds.Text least limit fabric forms.Targets v fits typed within = absurd cc
value-form kinds.Text least limit fabric forms.FabricIndex v fits typed within = absurd cc
value-form kinds.Text least limit fabric (forms.NullableUint greatest) v fits typed within = absurd cc
value-form kinds.Text least limit fabric (forms.NullableOctets fewest most) v fits typed within = absurd cc
value-form kinds.Text least limit fabric forms.Structure v fits typed within = absurd cc
value-form kinds.Numbers least limit fabric form v fits typed within = absurd cc
value-form kinds.Structure least limit fabric form v fits typed within = absurd cc
value-form kinds.DeviceTypes least limit fabric form v fits typed within = absurd cc
value-form kinds.Binding least limit fabric form v fits typed within = absurd cc
value-form kinds.Acl least limit fabric form v fits typed within = absurd cc
value-form kinds.Networks least limit fabric form v fits typed within = absurd cc
value-form kinds.Nocs least limit fabric form v fits typed within = absurd cc
value-form kinds.Fabrics least limit fabric form v fits typed within = absurd cc
value-form kinds.Roots least limit fabric form v fits typed within = absurd cc
value-form kinds.Labels least limit fabric form v fits typed within = absurd cc
value-form kinds.Bench least limit fabric form v fits typed within = absurd cc
value-form kinds.GroupKeyMap least limit fabric form v fits typed within = absurd cc
value-form kinds.GroupTable least limit fabric form v fits typed within = absurd cc
value-form kinds.KeySets least limit fabric form v fits typed within = absurd cc

pub impossible : {A : Type 0} → false ≡ true → A
impossible h = absurd cc

-- Items of lists. What an item is kept as is kept as itself.

pub choose-true : (b x y : Bool) → b ≡ true → x ≡ true → (if b then x else y) ≡ true
choose-true true x y is h = h
choose-true false x y is h = impossible is

pub choose-false : (b x y : Bool) → b ≡ false → y ≡ true → (if b then x else y) ≡ true
choose-false true x y is h = impossible (sym is)
choose-false false x y is h = h

or-none : (a b : Bool) → (a || b) ≡ false → (a ≡ false) × (b ≡ false)
or-none true b h = absurd cc
or-none false b h = (refl, h)

not-false : (b : Bool) → not b ≡ true → b ≡ false
not-false true h = impossible h
not-false false h = refl

is-not : (b : Bool) → b ≡ false → not b ≡ true
is-not true h = impossible (sym h)
is-not false h = refl

-- no two fields have one number
abbrev numbers_differ : List Field → Bool
numbers_differ [] = true
numbers_differ (f ∷ fs) = not (list_any (λ (g : Field). g.number == f.number) fs) && numbers_differ fs

-- whether the first member has this number
abbrev begins : ℕ → Elements → Bool
begins n none = false
begins n (more tag v es) = is_context n tag

-- By the law that the tree of a tree's value is the tree.
module _ (tree_value : (t : Tree) → tree (value_of t) ≡ t) where
  module _ (fabric : ℕ) (es : Elements) where
    abbrev kept : List Field → Elements
    kept fields = elements (kept_fields fabric fields es)

    no-begin : (n : ℕ) (f : Field) (fs : List Field) (o : Option Value) → (f.number == n) ≡ false → begins n (kept fs) ≡ false → begins n (elements (tagged f.number o ++ kept_fields fabric fs es)) ≡ false
    no-begin n f fs None this rest = rest
    no-begin n f fs (Some v) this rest = this

    not-begins : (n : ℕ) (fields : List Field) → list_any (λ (g : Field). g.number == n) fields ≡ false → begins n (kept fields) ≡ false
    not-begins n [] other = refl
    not-begins n (f ∷ fs) other =
        let both = or-none (f.number == n) (list_any (λ (g : Field). g.number == n) fs) other in
        no-begin n f fs (kept_value fabric f.form (field_in f.number es)) both.0 (not-begins n fs both.1)

    -- a field that is not there
    without : (f : Field) (fs : List Field) (rest : Elements) → begins f.number rest ≡ false → may_be_missing f ≡ true → are_kept_fields fabric fs rest ≡ true → are_kept_fields fabric (f ∷ fs) rest ≡ true
    without f fs none absent may all = and-true (may_be_missing f) (are_kept_fields fabric fs none) may all
    without f fs (more tag v others) absent may all =
        choose-false (is_context f.number tag) (is_kept_as fabric f.form v && are_kept_fields fabric fs others) (may_be_missing f && are_kept_fields fabric fs (more tag v others)) absent
        (and-true (may_be_missing f) (are_kept_fields fabric fs (more tag v others)) may all)

    -- a field that is there
    with_field : (f : Field) (fs : List Field) (v : Value) → is_kept_as fabric f.form (tree v) ≡ true → are_kept_fields fabric fs (kept fs) ≡ true
        → are_kept_fields fabric (f ∷ fs) (elements ((Context f.number, v) ∷ kept_fields fabric fs es)) ≡ true
    with_field f fs v is all =
        choose-true (f.number == f.number) (is_kept_as fabric f.form (tree v) && are_kept_fields fabric fs (kept fs)) (may_be_missing f && are_kept_fields fabric fs (more (Context f.number) (tree v) (kept fs))) (eq-eqb f.number f.number refl)
        (and-true (is_kept_as fabric f.form (tree v)) (are_kept_fields fabric fs (kept fs)) is all)

    field-itself : (f : Field) (fs : List Field) (index : Bool) → is_fabric_index f.form ≡ index → (o : Option Tree) → field_has_type f o ≡ true → field_is_within f o ≡ true
        → begins f.number (kept fs) ≡ false → are_kept_fields fabric fs (kept fs) ≡ true
        → are_kept_fields fabric (f ∷ fs) (elements (tagged f.number (if index then Some (values.Uint fabric) else option_map value_of o) ++ kept_fields fabric fs es)) ≡ true
    field-itself f fs true is o typed within absent all =
        with_field f fs (values.Uint fabric)
        (choose-true (is_fabric_index f.form) (is_that fabric (Some fabric)) (has_type f.form (uint fabric) && is_within f.form (uint fabric)) is (eq-eqb fabric fabric refl)) all
    field-itself f fs false is None typed within absent all =
        without f fs (kept fs) absent (and-true (not f.needed) (not (is_fabric_index f.form)) typed (is-not (is_fabric_index f.form) is)) all
    field-itself f fs false is (Some t) typed within absent all =
        with_field f fs (value_of t)
        (subst (λ (u : Tree). is_kept_as fabric f.form u ≡ true) (sym (tree_value t))
        (choose-false (is_fabric_index f.form) (is_that fabric (unsigned_in t)) (has_type f.form t && is_within f.form t) is (and-true (has_type f.form t) (is_within f.form t) typed within))) all

    itself : (fields : List Field) → numbers_differ fields ≡ true → have_types fields es ≡ true → are_within fields es ≡ true → are_kept_fields fabric fields (kept fields) ≡ true
    itself [] differ types within = refl
    itself (f ∷ fs) differ types within =
        let apart = and-both (not (list_any (λ (g : Field). g.number == f.number) fs)) (numbers_differ fs) differ in
        let typed = and-both (field_has_type f (field_in f.number es)) (have_types fs es) types in
        let limits = and-both (field_is_within f (field_in f.number es)) (are_within fs es) within in
        field-itself f fs (is_fabric_index f.form) refl (field_in f.number es) typed.0 limits.0
        (not-begins f.number fs (not-false (list_any (λ (g : Field). g.number == f.number) fs) apart.0)) (itself fs apart.1 typed.1 limits.1)

  -- An item that is kept is a structure.

  struct-step : (b : Bool) (w v : Value) (P : Value → Type 0) → (if b then Some w else None) ≡ Some v → (b ≡ true → P w) → P v
  struct-step true w v P h each = let e : w ≡ v = cc in subst P e (each refl)
  struct-step false w v P h each = absurd cc

  kept-struct : (fields : List Field) (fabric : ℕ) (t : Tree) (v : Value) (P : Value → Type 0) → is_item fields t ≡ true → kept_item fields fabric t ≡ Some v
      → ((es : Elements) → have_types fields es ≡ true → are_within fields es ≡ true → P (values.Struct (elements (kept_fields fabric fields es)))) → P v
  kept-struct fields fabric (int z) v P typed found each = impossible typed
  kept-struct fields fabric (uint n) v P typed found each = impossible typed
  kept-struct fields fabric (bool b) v P typed found each = impossible typed
  kept-struct fields fabric (text s) v P typed found each = impossible typed
  kept-struct fields fabric (octets s) v P typed found each = impossible typed
  kept-struct fields fabric null v P typed found each = impossible typed
  kept-struct fields fabric (bits32 n) v P typed found each = impossible typed
  kept-struct fields fabric (bits64 n) v P typed found each = impossible typed
  kept-struct fields fabric (structure es) v P typed found each = struct-step (are_within fields es) (values.Struct (elements (kept_fields fabric fields es))) v P found (each es typed)
  kept-struct fields fabric (array es) v P typed found each = impossible typed
  kept-struct fields fabric (list es) v P typed found each = impossible typed

  pub label-item : (t : Tree) (v : Value) → is_item (fields_of kinds.Labels) t ≡ true → kept_item (fields_of kinds.Labels) 0 t ≡ Some v → is_label_item (tree v) ≡ true
  unfolding fields_of
  label-item t v typed found =
      kept-struct (fields_of kinds.Labels) 0 t v (λ w. is_label_item (tree w) ≡ true) typed found (λ es types within. itself 0 es (fields_of kinds.Labels) refl types within)

  pub bench-item : (least limit fabric : ℕ) (t : Tree) (v : Value) → is_item (fields_of kinds.Bench) t ≡ true → kept_item (fields_of kinds.Bench) fabric t ≡ Some v → is_of_kind kinds.Bench least limit fabric v ≡ true
  unfolding fields_of
  bench-item least limit fabric t v typed found =
      kept-struct (fields_of kinds.Bench) fabric t v (λ w. is_of_kind kinds.Bench least limit fabric w ≡ true) typed found (λ es types within. itself fabric es (fields_of kinds.Bench) refl types within)

  pub map-item : (least limit fabric : ℕ) (t : Tree) (v : Value) → is_item (fields_of kinds.GroupKeyMap) t ≡ true → kept_item (fields_of kinds.GroupKeyMap) fabric t ≡ Some v → is_of_kind kinds.GroupKeyMap least limit fabric v ≡ true
  unfolding fields_of
  map-item least limit fabric t v typed found =
      kept-struct (fields_of kinds.GroupKeyMap) fabric t v (λ w. is_of_kind kinds.GroupKeyMap least limit fabric w ≡ true) typed found (λ es types within. itself fabric es (fields_of kinds.GroupKeyMap) refl types within)

  pub binding-item : (least limit fabric : ℕ) (t : Tree) (v : Value) → is_item (fields_of kinds.Binding) t ≡ true → kept_item (fields_of kinds.Binding) fabric t ≡ Some v → is_of_kind kinds.Binding least limit fabric v ≡ true
  unfolding fields_of
  binding-item least limit fabric t v typed found =
      kept-struct (fields_of kinds.Binding) fabric t v (λ w. is_of_kind kinds.Binding least limit fabric w ≡ true) typed found (λ es types within. itself fabric es (fields_of kinds.Binding) refl types within)
