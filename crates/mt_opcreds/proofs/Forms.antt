-- What the form of fields says of what is read there.
use Rattle.std.proofs.Common.{◌≡◌, ℕ, ◌&&◌, nat_le, true, List, ◌∷◌, length, Option, Some, None}
use Rattle.std.proofs.lemmas.Bool.{and_parts, false≢true}
use Rattle.std.specs.Prelude.{[], option_and_then, unwrap_or}
use Rattle.std.specs.Str.{is_utf8}
use Rattle.mt_tlv.specs.Scalars.{octets_in, text_in}
use Rattle.mt_tlv.specs.Tree.{Tree, text, octets, Elements, structure}
use Rattle.mt_meta.specs.Fields.{are_within, field_has_type, field_is_within, has_fields, have_types}
use Rattle.mt_meta.specs.Rows.{any_text, needed}
use Rattle.mt_meta.specs.declared.rows.Field.{Field}
use Rattle.mt_meta.specs.declared.rows.Form.TheVariants as forms
use Rattle.mt_model.specs.Trees.{field_in}

-- one of the fields, in a structure that has them all

pub typed : (row : Field) (rows : List Field) (es : Elements) → have_types (row ∷ rows) es ≡ true → (field_has_type row (field_in row.number es) ≡ true) × (have_types rows es ≡ true)
typed row rows es types = and_parts (field_has_type row (field_in row.number es)) (have_types rows es) types

pub within : (row : Field) (rows : List Field) (es : Elements) → are_within (row ∷ rows) es ≡ true → (field_is_within row (field_in row.number es) ≡ true) × (are_within rows es ≡ true)
within row rows es limits = and_parts (field_is_within row (field_in row.number es)) (are_within rows es) limits

pub formed : (rows : List Field) (es : Elements) → has_fields rows (structure es) ≡ true → (have_types rows es ≡ true) × (are_within rows es ≡ true)
formed rows es form = and_parts (have_types rows es) (are_within rows es) form

-- octets that must be there have the lengths of their form
pub octets_fit : (number least most : ℕ) (field : Option Tree) → field_has_type (needed number (forms.Octets least most)) field ≡ true → field_is_within (needed number (forms.Octets least most)) field ≡ true
    → (nat_le least (length (unwrap_or (option_and_then octets_in field) [])) && nat_le (length (unwrap_or (option_and_then octets_in field) [])) most) ≡ true
octets_fit number least most None type limit = absurd (false≢true type)
octets_fit number least most (Some (octets s)) type limit = limit
octets_fit number least most (Some tree) type limit = absurd (false≢true type)

-- a text that must be there is UTF-8
pub text_is : (number : ℕ) (field : Option Tree) → field_has_type (needed number any_text) field ≡ true → is_utf8 (unwrap_or (option_and_then text_in field) []) ≡ true
text_is number None type = absurd (false≢true type)
text_is number (Some (text s)) type = type
text_is number (Some tree) type = absurd (false≢true type)
