-- What a masked key set has under its fields: what it is asked for is the same, and it is kept masked.
use Rattle.std.proofs.Common.{◌≡◌, ℕ, ◌==◌, ◌&&◌, ◌||◌, inl, inr, length, Bool, true, false, List, Option, Some, None, refl, ap, ◌∙◌, if◌then◌else◌}
use Rattle.std.specs.Prelude.{option_and_then, unwrap_or}
use Rattle.std.specs.Option.{option_map}
use Rattle.std.proofs.lemmas.Bool.{cases_Bool, eqb-true}
use Rattle.mt_tlv.specs.Scalars.{octets_in, unsigned_in}
use Rattle.mt_tlv.specs.Tree.{Tree, uint, octets, null, structure, Elements, none, more}
use Rattle.mt_tlv.specs.View.{tree}
use Rattle.mt_tlv.specs.declared.value.Tag.{Tag}
use Rattle.mt_tlv.specs.declared.value.Tag.TheVariants.{Anonymous, Context, Common, Implicit, Full}
use Rattle.mt_tlv.specs.declared.value.Value.{Value}
use Rattle.mt_tlv.specs.declared.value.Value.TheVariants as values
use Rattle.mt_groupkeys.specs.Sets.{given, has_starts, is_start, kept_set, number_in, told_set}
use Rattle.mt_meta.specs.Fields.{field_has_type, field_is_within, has_fields}
use Rattle.mt_meta.specs.Given.{field_of}
use Rattle.mt_meta.specs.Rows.{needed}
use Rattle.mt_meta.specs.clusters.GroupKeyManagement.{key_set_write_fields}
use Rattle.mt_meta.specs.declared.rows.Form.TheVariants as forms
use Rattle.mt_model.specs.Trees.{field_in, is_context, structure_in}
use Rattle.mt_model.specs.tables.KeySets.{has_key, has_no_key, is_id, is_key, is_key_set, is_later, is_null, is_policy, keys_rise, number_at, start_of}
use Rattle.mt_masks.specs.Masking.{changed_under, is_key_field, masked_bytes, masked_fields, masked_key, masked_members, masked_set, masked_structure}
use Rattle.mt_masks.proofs.Lists.{impossible}

-- Fields of changed members.

tag_is : (n : ℕ) (tag : Tag) → is_context n tag ≡ true → tag ≡ Context n
tag_is n Anonymous is = impossible is
tag_is n (Context k) is = ap Context (eqb-true k n is)
tag_is n (Common k) is = impossible is
tag_is n (Implicit k) is = impossible is
tag_is n (Full v p k) is = impossible is

pub field_changed : (under : Tag → Bool) (change : Tree → Tree) (n : ℕ) (es : Elements) → field_in n (changed_under under change es) ≡ option_map (λ (v : Tree). if under (Context n) then change v else v) (field_in n es)
field_changed under change n none = refl
field_changed under change n (more tag v es) = elim (cases_Bool (is_context n tag)) [
  | inl is ↦ rw is (ap (λ (t : Tag). Some (if under t then change v else v)) (tag_is n tag is))
  | inr is_not ↦ rw is_not (field_changed under change n es)
]

same_option : {X : Type 0} (o : Option X) → option_map (λ (x : X). x) o ≡ o
same_option None = refl
same_option (Some x) = refl

-- a field that holds no key is the same
pub plain_field : (n : ℕ) (es : Elements) → is_key_field (Context n) ≡ false → field_in n (masked_members es) ≡ field_in n es
plain_field n es plain = field_changed is_key_field masked_key n es ∙ ap (λ (b : Bool). option_map (λ (v : Tree). if b then masked_key v else v) (field_in n es)) plain ∙ same_option (field_in n es)

pub key_field : (n : ℕ) (es : Elements) → is_key_field (Context n) ≡ true → field_in n (masked_members es) ≡ option_map masked_key (field_in n es)
key_field n es key = field_changed is_key_field masked_key n es ∙ ap (λ (b : Bool). option_map (λ (v : Tree). if b then masked_key v else v) (field_in n es)) key

-- The form of a key set.

bytes_length : (key : List ℕ) → (length (masked_bytes key) == 16) ≡ (length key == 16)
bytes_length key = elim (cases_Bool (length key == 16)) [ inl is ↦ rw is refl | inr is_not ↦ rw is_not is_not ]

still_key : (o : Option Tree) → is_key (option_and_then octets_in (option_map masked_key o)) ≡ is_key (option_and_then octets_in o)
still_key None = refl
still_key (Some (octets key)) = bytes_length key
still_key (Some tree) = refl

still_null : (o : Option Tree) → is_null (option_map masked_key o) ≡ is_null o
still_null None = refl
still_null (Some tree) = null_tree tree where
  null_tree : (tree : Tree) → is_null (Some (masked_key tree)) ≡ is_null (Some tree)
  null_tree (octets key) = refl
  null_tree tree = refl

still_given : (o : Option Tree) → unwrap_or (option_map masked_key o) null ≡ masked_key (unwrap_or o null)
still_given None = refl
still_given (Some tree) = refl

module _ (es : Elements) where
  pub number_same : (n : ℕ) → is_key_field (Context n) ≡ false → number_at n (masked_members es) ≡ number_at n es
  number_same n plain = ap (option_and_then unsigned_in) (plain_field n es plain)

  key_same : (then_time time key start : ℕ) → then_time ≡ time → is_key_field (Context key) ≡ true → is_key_field (Context start) ≡ false → has_key then_time key start (masked_members es) ≡ has_key time key start es
  key_same then_time time key start times its_key its_start =
      let held = ap (λ (o : Option Tree). is_key (option_and_then octets_in o)) (key_field key es its_key) ∙ still_key (field_in key es) in
      let number = number_same start its_start in
      λ i. held i && is_later (times i) (number i)

  no_key_same : (key start : ℕ) → is_key_field (Context key) ≡ true → is_key_field (Context start) ≡ false → has_no_key key start (masked_members es) ≡ has_no_key key start es
  no_key_same key start its_key its_start =
      let held = ap is_null (key_field key es its_key) ∙ still_null (field_in key es) in
      let number = plain_field start es its_start in
      λ i. held i && is_null (number i)

  start_same : (n : ℕ) → is_key_field (Context n) ≡ false → start_of n (masked_members es) ≡ start_of n es
  start_same n plain = ap (λ (o : Option ℕ). unwrap_or o 0) (number_same n plain)

  rise_same : keys_rise (masked_members es) ≡ keys_rise es
  rise_same =
      let first = key_same 0 0 2 3 refl refl refl in
      let second = key_same _ _ 4 5 (start_same 3 refl) refl refl in
      let third = key_same _ _ 6 7 (start_same 5 refl) refl refl in
      let no_second = no_key_same 4 5 refl refl in
      let no_third = no_key_same 6 7 refl refl in
      λ i. first i && ((no_second i && no_third i) || (second i && (no_third i || third i)))

  set_same : is_key_set (masked_members es) ≡ is_key_set es
  set_same = λ i. is_id (number_same 0 refl i) && (is_policy (number_same 1 refl i) && rise_same i)

  starts_same : has_starts (masked_members es) ≡ has_starts es
  starts_same = λ i. is_start (plain_field 3 es refl i) && (is_start (plain_field 5 es refl i) && is_start (plain_field 7 es refl i))

  pub form_same : (is_key_set (masked_members es) && has_starts (masked_members es)) ≡ (is_key_set es && has_starts es)
  form_same = λ i. set_same i && starts_same i

  -- As it is kept, and as it is told.

  given_same : (n : ℕ) → is_key_field (Context n) ≡ false → given n (masked_members es) ≡ given n es
  given_same n plain = ap (λ (o : Option Tree). unwrap_or o null) (plain_field n es plain)

  given_masked : (n : ℕ) → is_key_field (Context n) ≡ true → given n (masked_members es) ≡ masked_key (given n es)
  given_masked n key = ap (λ (o : Option Tree). unwrap_or o null) (key_field n es key) ∙ still_given (field_in n es)

  pub kept_masked : (fabric : ℕ) → kept_set fabric (masked_members es) ≡ masked_set (kept_set fabric es)
  kept_masked fabric = λ i. values.Struct (
      more (Context 0) (given_same 0 refl i) (
      more (Context 1) (given_same 1 refl i) (
      more (Context 2) (given_masked 2 refl i) (
      more (Context 3) (given_same 3 refl i) (
      more (Context 4) (given_masked 4 refl i) (
      more (Context 5) (given_same 5 refl i) (
      more (Context 6) (given_masked 6 refl i) (
      more (Context 7) (given_same 7 refl i) (
      more (Context 254) (uint fabric) none)))))))))

  pub told_same : told_set (masked_members es) ≡ told_set es
  told_same = λ i.
      more (Context 0) (given_same 0 refl i) (
      more (Context 1) (given_same 1 refl i) (
      more (Context 2) null (
      more (Context 3) (given_same 3 refl i) (
      more (Context 4) null (
      more (Context 5) (given_same 5 refl i) (
      more (Context 6) null (
      more (Context 7) (given_same 7 refl i) none)))))))

-- A set by its number.
pub number_masked : (n : ℕ) → is_key_field (Context n) ≡ false → (set : Value) → number_in n (masked_set set) ≡ number_in n set
number_masked n plain (values.Struct es) = number_same es n plain
number_masked n plain set = refl

-- The set that KeySetWrite gives.

given_structure : (o : Option Tree) → option_and_then structure_in (option_map masked_structure o) ≡ option_map masked_members (option_and_then structure_in o)
given_structure None = refl
given_structure (Some (structure es)) = refl
given_structure (Some tree) = refl

pub given_set : (fields : Value) → option_and_then structure_in (field_of 0 (masked_fields fields)) ≡ option_map masked_members (option_and_then structure_in (field_of 0 fields))
given_set (values.Struct es) = ap (option_and_then structure_in) (field_changed (is_context 0) masked_structure 0 es) ∙ given_structure (field_in 0 es)
given_set fields = refl

-- the fields have the form of the command all the same

type_same : (o : Option Tree) → field_has_type (needed 0 forms.Structure) (option_map masked_structure o) ≡ field_has_type (needed 0 forms.Structure) o
type_same None = refl
type_same (Some (structure es)) = refl
type_same (Some tree) = refl

within_same : (o : Option Tree) → field_is_within (needed 0 forms.Structure) (option_map masked_structure o) ≡ field_is_within (needed 0 forms.Structure) o
within_same None = refl
within_same (Some tree) = refl

pub fields_same : (fields : Value) → has_fields key_set_write_fields (tree (masked_fields fields)) ≡ has_fields key_set_write_fields (tree fields)
fields_same (values.Struct es) =
    let field = field_changed (is_context 0) masked_structure 0 es in
    λ i. ((ap (field_has_type (needed 0 forms.Structure)) field ∙ type_same (field_in 0 es)) i && true) && ((ap (field_is_within (needed 0 forms.Structure)) field ∙ within_same (field_in 0 es)) i && true)
fields_same fields = refl
