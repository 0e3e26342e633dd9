-- Which values have the form that the table asks of a value that is written, of the fields of an item, and of the fields of a
-- command. That a written value has another type is told before that it breaks a limit, so there are two tests.
use Rattle.std.specs.Prelude.{ℕ, nat_le, ◌&&◌, not, Bool, true, false, if◌then◌else◌, List, [], ◌∷◌, length, Option, Some, None}
use Rattle.std.specs.List.{list_all}
use Rattle.std.specs.Str.{is_utf8}
use Rattle.mt_tlv.specs.Tree.{Tree, uint, bool, text, octets, null, structure, array, Elements, none, more}
use Rattle.mt_tlv.specs.Scalars.{unsigned_in}
use Rattle.mt_model.specs.Optional.{is_that}
use Rattle.mt_model.specs.Trees.{field_in, is_context}
use Rattle.mt_meta.specs.declared.rows.Field.{Field}
use Rattle.mt_meta.specs.declared.rows.Form.{Form}
use Rattle.mt_meta.specs.declared.rows.Form.TheVariants as forms
use Rattle.mt_meta.specs.Targets.{is_target, is_unsigned}

-- Types.

abbrev pub is_bool : Tree → Bool
is_bool (bool b) = true
is_bool tree = false

abbrev pub is_number : ℕ → Tree → Bool
is_number greatest (uint n) = nat_le n greatest
is_number greatest tree = false

abbrev pub is_text : Tree → Bool
is_text (text s) = is_utf8 s
is_text tree = false

abbrev pub are_octets : Tree → Bool
are_octets (octets s) = true
are_octets tree = false

-- whether each element of a container passes a test
abbrev pub all_elements : (Tree → Bool) → Elements → Bool
all_elements test none = true
all_elements test (more tag v es) = test v && all_elements test es

-- null, or an array each of whose elements passes a test
abbrev pub is_null_or_array : (Tree → Bool) → Tree → Bool
is_null_or_array test null = true
is_null_or_array test (array es) = all_elements test es
is_null_or_array test tree = false

abbrev pub is_null_or : (Tree → Bool) → Tree → Bool
is_null_or test null = true
is_null_or test tree = test tree

abbrev pub is_structure : Tree → Bool
is_structure (structure es) = true
is_structure tree = false

abbrev pub has_type : Form → Tree → Bool
has_type forms.Bool tree = is_bool tree
has_type (forms.Uint greatest) tree = is_number greatest tree
has_type (forms.Text least most) tree = is_text tree
has_type (forms.Octets least most) tree = are_octets tree
has_type forms.Subjects tree = is_null_or_array is_unsigned tree
has_type forms.Targets tree = is_null_or_array is_target tree
has_type forms.FabricIndex tree = is_unsigned tree
has_type (forms.NullableUint greatest) tree = is_null_or (is_number greatest) tree
has_type (forms.NullableOctets least most) tree = is_null_or are_octets tree
has_type forms.Structure tree = is_structure tree

-- Limits, asked of what has the type.

abbrev pub text_fits : ℕ → ℕ → Tree → Bool
text_fits least most (text s) = nat_le least (length s) && nat_le (length s) most
text_fits least most tree = true

abbrev pub octets_fit : ℕ → ℕ → Tree → Bool
octets_fit least most (octets s) = nat_le least (length s) && nat_le (length s) most
octets_fit least most tree = true

abbrev pub is_within : Form → Tree → Bool
is_within (forms.Text least most) tree = text_fits least most tree
is_within (forms.Octets least most) tree = octets_fit least most tree
is_within (forms.NullableOctets least most) tree = octets_fit least most tree
is_within form tree = true

-- Fields of a structure. Those that are not named are passed over.

-- a field that must be there, or has the type
abbrev pub field_has_type : Field → Option Tree → Bool
field_has_type field None = not field.needed
field_has_type field (Some tree) = has_type field.form tree

abbrev pub field_is_within : Field → Option Tree → Bool
field_is_within field None = true
field_is_within field (Some tree) = is_within field.form tree

abbrev pub have_types : List Field → Elements → Bool
have_types fields es = list_all (λ (field : Field). field_has_type field (field_in field.number es)) fields

abbrev pub are_within : List Field → Elements → Bool
are_within fields es = list_all (λ (field : Field). field_is_within field (field_in field.number es)) fields

-- whether an item is a structure whose fields have their types
abbrev pub is_item : List Field → Tree → Bool
is_item fields (structure es) = have_types fields es
is_item fields tree = false

-- Items as they are kept: the named fields alone, in the order of the table, each with its type and within its limits. Whose an item is
-- always stands there.

abbrev pub is_fabric_index : Form → Bool
is_fabric_index forms.FabricIndex = true
is_fabric_index form = false

-- whether an item may be kept without the field
abbrev pub may_be_missing : Field → Bool
may_be_missing field = not field.needed && not (is_fabric_index field.form)

-- the field of an item that is this fabric's
abbrev pub is_kept_as : ℕ → Form → Tree → Bool
is_kept_as fabric form tree = if is_fabric_index form then is_that fabric (unsigned_in tree) else has_type form tree && is_within form tree

abbrev pub are_kept_fields : ℕ → List Field → Elements → Bool
are_kept_fields fabric [] none = true
are_kept_fields fabric [] (more tag v es) = false
are_kept_fields fabric (field ∷ fields) none = may_be_missing field && are_kept_fields fabric fields none
are_kept_fields fabric (field ∷ fields) (more tag v es) =
    if is_context field.number tag then is_kept_as fabric field.form v && are_kept_fields fabric fields es
    else may_be_missing field && are_kept_fields fabric fields (more tag v es)

abbrev pub is_kept_item : List Field → ℕ → Tree → Bool
is_kept_item fields fabric (structure es) = are_kept_fields fabric fields es
is_kept_item fields fabric tree = false

-- Whether a value is a structure that has these fields: each that must be there is, and each that is there has its type and keeps
-- its limits.
abbrev pub has_fields : List Field → Tree → Bool
has_fields fields (structure es) = have_types fields es && are_within fields es
has_fields fields tree = false
