-- What the values of a configuration must be. The forms of ids and numbers are those that mt_config reads, the rules on
-- them those of mt_model.
use Rattle.std.specs.Prelude.{ℕ, ◌/◌, ◌%◌, ◌==◌, ◌&&◌, ◌||◌, nat_le, Bool, false, not, List, length, Option, Some, None, is_some}
use Rattle.std.specs.List.{list_all}
use Rattle.serde_json.specs.Data.{Data}
use Rattle.serde_json.specs.Find.{get, as_array, as_null, as_str}
use Rattle.mt_config.specs.Json.{count, id, number}
use Rattle.mt_model.specs.declared.tables.access.Auth.{Auth}
use Rattle.mt_model.specs.declared.tables.access.Auth.TheVariants.{Case, Group}
use Rattle.mt_model.specs.texts.Config.{is_operational, may_be_subject}
use Rattle.mt_check.specs.declared.forms.Field.{Field}
use Rattle.mt_check.specs.declared.forms.Form.{Form}
use Rattle.mt_check.specs.declared.forms.Form.TheVariants as forms

-- whether there is something, and it is so
abbrev pub is_some_so : {X : Type 0} → (X → Bool) → Option X → Bool
is_some_so test None = false
is_some_so test (Some x) = test x

-- a hex digit, in either case
abbrev pub is_digit : ℕ → Bool
is_digit byte = (nat_le 48 byte && nat_le byte 57) || (nat_le 97 byte && nat_le byte 102) || (nat_le 65 byte && nat_le byte 70)

-- two digits for each byte
abbrev pub are_digits_of : ℕ → ℕ → List ℕ → Bool
are_digits_of least most digits = (length digits % 2 == 0) && nat_le least (length digits / 2) && nat_le (length digits / 2) most && list_all is_digit digits

abbrev pub are_bytes : ℕ → ℕ → Data → Bool
are_bytes least most d = is_some_so (are_digits_of least most) (as_str d)

abbrev pub is_operational_id : Data → Bool
is_operational_id d = is_some_so is_operational (id d)

abbrev pub is_in : ℕ → ℕ → Data → Bool
is_in least most d = is_some_so (nat_le least) (number most d)

abbrev pub is_text : ℕ → Data → Bool
is_text most d = is_some_so (λ text. nat_le (length text) most) (as_str d)

abbrev pub has_at_most : ℕ → Data → Bool
has_at_most most d = is_some_so (λ items. nat_le (count items) most) (as_array d)

-- the version of a CAT is its lower 16 bits
abbrev pub has_version : ℕ → Bool
has_version tag = not (tag % 65536 == 0)

abbrev pub is_tag : Data → Bool
is_tag d = is_some_so has_version (number 4294967295 d)

abbrev pub is_subject : Auth → Data → Bool
is_subject auth d = is_some_so (may_be_subject auth) (id d)

abbrev pub fits : Form → Data → Bool
fits (forms.Bytes least most) d = are_bytes least most d
fits forms.Id d = is_some (id d)
fits forms.Node d = is_operational_id d
fits (forms.Number least most) d = is_in least most d
fits (forms.NumberOrNull most) d = is_some (as_null d) || is_some (number most d)
fits (forms.Text most) d = is_text most d
fits (forms.List most) d = has_at_most most d
fits forms.Cat d = is_tag d
fits forms.CaseSubject d = is_subject Case d
fits forms.GroupSubject d = is_subject Group d

-- what need not be there may be missing
abbrev pub fits_if_there : Bool → Form → Option Data → Bool
fits_if_there needed form None = not needed
fits_if_there needed form (Some d) = fits form d

-- the field of a row has its form
abbrev pub fits_field : Data → Field → Bool
fits_field d field = fits_if_there field.needed field.form (get field.name.now d)

abbrev pub is_misfit : Data → Field → Bool
is_misfit d field = not (fits_field d field)
