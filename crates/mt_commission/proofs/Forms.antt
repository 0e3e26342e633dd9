-- What is read of fields that have their form.
use Rattle.std.proofs.Common.{◌≡◌, ℕ, ◌^◌, ◌&&◌, nat_le, nat_lt, Bool, true, false, List, length, Option, Some, None, refl, arith}
use Rattle.std.specs.Prelude.{[], option_and_then, unwrap_or}
use Rattle.std.specs.Str.{is_utf8}
use Rattle.std.proofs.lemmas.Bool.{and_from, and_parts}
use Rattle.mt_tlv.specs.Scalars.{text_in, unsigned_in}
use Rattle.mt_tlv.specs.Tree.{Tree, int, uint, bool, text, octets, null, bits32, bits64, structure, array, list, Elements}
use Rattle.mt_tlv.specs.View.{tree}
use Rattle.mt_tlv.specs.declared.value.Value.{Value}
use Rattle.mt_tlv.specs.declared.value.Value.TheVariants as values
use Rattle.mt_meta.specs.Fields.{has_fields, have_types, are_within, field_has_type, field_is_within}
use Rattle.mt_meta.specs.Rows.{any_number, needed}
use Rattle.mt_meta.specs.declared.rows.Field.{Field}
use Rattle.mt_meta.specs.declared.rows.Form.TheVariants as forms

impossible : {X : Type 0} → false ≡ true → X
impossible h = absurd (cc)

-- a number, where it is given, has 64 bits
abbrev pub fits : Option ℕ → Bool
fits None = true
fits (Some n) = nat_lt n (2 ^ 64)

pub fits_or_zero : (given : Option ℕ) → fits given ≡ true → nat_lt (unwrap_or given 0) (2 ^ 64) ≡ true
fits_or_zero None h = refl
fits_or_zero (Some n) h = h

within_bits : (n : ℕ) → nat_le n 0xffffffffffffffff ≡ true → nat_lt n (2 ^ 64) ≡ true
within_bits n h = grind (arith, h)

pub number_fits : (number : ℕ) (is_needed : Bool) (field : Option Tree) → field_has_type (record { number = number; needed = is_needed; form = any_number }) field ≡ true → fits (option_and_then unsigned_in field) ≡ true
number_fits number is_needed None h = refl
number_fits number is_needed (Some (int z)) h = refl
number_fits number is_needed (Some (uint n)) h = within_bits n h
number_fits number is_needed (Some (bool b)) h = refl
number_fits number is_needed (Some (text s)) h = refl
number_fits number is_needed (Some (octets s)) h = refl
number_fits number is_needed (Some null) h = refl
number_fits number is_needed (Some (bits32 n)) h = refl
number_fits number is_needed (Some (bits64 n)) h = refl
number_fits number is_needed (Some (structure es)) h = refl
number_fits number is_needed (Some (array es)) h = refl
number_fits number is_needed (Some (list es)) h = refl

-- a country's code has its length, and is a text
abbrev pub is_country : List ℕ → Bool
is_country bytes = nat_le 2 (length bytes) && nat_le (length bytes) 2 && is_utf8 bytes

pub text_fits : (number : ℕ) (field : Option Tree) → field_has_type (needed number (forms.Text 2 2)) field ≡ true → field_is_within (needed number (forms.Text 2 2)) field ≡ true
    → is_country (unwrap_or (option_and_then text_in field) []) ≡ true
text_fits number None is within = impossible is
text_fits number (Some (int z)) is within = impossible is
text_fits number (Some (uint n)) is within = impossible is
text_fits number (Some (bool b)) is within = impossible is
text_fits number (Some (text s)) is within = and_from (nat_le 2 (length s) && nat_le (length s) 2) (is_utf8 s) within is
text_fits number (Some (octets s)) is within = impossible is
text_fits number (Some null) is within = impossible is
text_fits number (Some (bits32 n)) is within = impossible is
text_fits number (Some (bits64 n)) is within = impossible is
text_fits number (Some (structure es)) is within = impossible is
text_fits number (Some (array es)) is within = impossible is
text_fits number (Some (list es)) is within = impossible is

-- fields that have a form are those of a structure
pub record AreOf (rows : List Field) (fields : Value) : Type 0 where
  pub members : Elements
  pub is : fields ≡ values.Struct members
  pub types : have_types rows members ≡ true
  pub limits : are_within rows members ≡ true

pub are_of : (rows : List Field) (fields : Value) → has_fields rows (tree fields) ≡ true → AreOf rows fields
are_of rows (values.Int z) h = impossible h
are_of rows (values.Uint n) h = impossible h
are_of rows (values.Bool b) h = impossible h
are_of rows (values.Text s) h = impossible h
are_of rows (values.Octets s) h = impossible h
are_of rows values.Null h = impossible h
are_of rows (values.Bits32 n) h = impossible h
are_of rows (values.Bits64 n) h = impossible h
are_of rows (values.Struct es) h =
    let both = and_parts (have_types rows es) (are_within rows es) h in
    record { members = es; is = refl; types = both.0; limits = both.1 }
are_of rows (values.Array es) h = impossible h
are_of rows (values.List es) h = impossible h
