-- How many bytes the fields of an item take at most, by the forms of the table.
use Rattle.std.proofs.Common.{◌≡◌, ℕ, ◌+◌, ◌≤◌, nat_le, Bool, true, false, length, subst, sym, arith}
use Rattle.std.proofs.lemmas.Bool.{and_parts, eqb-true, leb-true}
use Rattle.mt_tlv.specs.Tree.{Tree, int, uint, bool, text, octets, null, bits32, bits64, structure, array, list}
use Rattle.mt_meta.specs.Fields.{is_kept_as, is_text, text_fits}
use Rattle.mt_meta.specs.declared.rows.Form.{Form}
use Rattle.mt_meta.specs.declared.rows.Form.TheVariants as forms
use Rattle.mt_lasting.proofs.NumberSizes.{most_size, string_within, within}
use Rattle.mt_lasting.proofs.TreeSizes.{number_size, size}

-- the bytes of a field of a form, behind its tag, where the form bounds them
abbrev pub form_size : Form → ℕ
form_size forms.Bool = 0
form_size (forms.Uint greatest) = most_size greatest
form_size (forms.Text least most) = most_size most + most
form_size (forms.Octets least most) = most_size most + most
form_size forms.Subjects = 0
form_size forms.Targets = 0
form_size forms.FabricIndex = 1
form_size (forms.NullableUint greatest) = most_size greatest
form_size (forms.NullableOctets least most) = most_size most + most
form_size forms.Structure = 0

abbrev pub is_sized : Form → Bool
is_sized forms.Subjects = false
is_sized forms.Targets = false
is_sized forms.Structure = false
is_sized form = true

-- By the form.

bool_size : (fabric : ℕ) (v : Tree) → is_kept_as fabric forms.Bool v ≡ true → size v ≤ 0
bool_size fabric (int z) is = absurd cc
bool_size fabric (uint n) is = absurd cc
bool_size fabric (bool b) is = omega arith
bool_size fabric (text s) is = absurd cc
bool_size fabric (octets s) is = absurd cc
bool_size fabric null is = absurd cc
bool_size fabric (bits32 n) is = absurd cc
bool_size fabric (bits64 n) is = absurd cc
bool_size fabric (structure es) is = absurd cc
bool_size fabric (array es) is = absurd cc
bool_size fabric (list es) is = absurd cc

uint_size : (fabric greatest : ℕ) (v : Tree) → is_kept_as fabric (forms.Uint greatest) v ≡ true → size v ≤ most_size greatest
uint_size fabric greatest (int z) is = absurd cc
uint_size fabric greatest (uint n) is = within greatest n (leb-true n greatest (and_parts (nat_le n greatest) true is).0)
uint_size fabric greatest (bool b) is = absurd cc
uint_size fabric greatest (text s) is = absurd cc
uint_size fabric greatest (octets s) is = absurd cc
uint_size fabric greatest null is = absurd cc
uint_size fabric greatest (bits32 n) is = absurd cc
uint_size fabric greatest (bits64 n) is = absurd cc
uint_size fabric greatest (structure es) is = absurd cc
uint_size fabric greatest (array es) is = absurd cc
uint_size fabric greatest (list es) is = absurd cc

text_size : (fabric least most : ℕ) (v : Tree) → is_kept_as fabric (forms.Text least most) v ≡ true → size v ≤ most_size most + most
text_size fabric least most (int z) is = absurd cc
text_size fabric least most (uint n) is = absurd cc
text_size fabric least most (bool b) is = absurd cc
text_size fabric least most (text s) is = string_within most (length s) (and_parts (nat_le least (length s)) (nat_le (length s) most) (and_parts (is_text (text s)) (text_fits least most (text s)) is).1).1
text_size fabric least most (octets s) is = absurd cc
text_size fabric least most null is = absurd cc
text_size fabric least most (bits32 n) is = absurd cc
text_size fabric least most (bits64 n) is = absurd cc
text_size fabric least most (structure es) is = absurd cc
text_size fabric least most (array es) is = absurd cc
text_size fabric least most (list es) is = absurd cc

octets_size : (fabric least most : ℕ) (v : Tree) → is_kept_as fabric (forms.Octets least most) v ≡ true → size v ≤ most_size most + most
octets_size fabric least most (int z) is = absurd cc
octets_size fabric least most (uint n) is = absurd cc
octets_size fabric least most (bool b) is = absurd cc
octets_size fabric least most (text s) is = absurd cc
octets_size fabric least most (octets s) is = string_within most (length s) (and_parts (nat_le least (length s)) (nat_le (length s) most) is).1
octets_size fabric least most null is = absurd cc
octets_size fabric least most (bits32 n) is = absurd cc
octets_size fabric least most (bits64 n) is = absurd cc
octets_size fabric least most (structure es) is = absurd cc
octets_size fabric least most (array es) is = absurd cc
octets_size fabric least most (list es) is = absurd cc

nullable_size : (fabric greatest : ℕ) (v : Tree) → is_kept_as fabric (forms.NullableUint greatest) v ≡ true → size v ≤ most_size greatest
nullable_size fabric greatest (int z) is = absurd cc
nullable_size fabric greatest (uint n) is = within greatest n (leb-true n greatest (and_parts (nat_le n greatest) true is).0)
nullable_size fabric greatest (bool b) is = absurd cc
nullable_size fabric greatest (text s) is = absurd cc
nullable_size fabric greatest (octets s) is = absurd cc
nullable_size fabric greatest null is = omega arith
nullable_size fabric greatest (bits32 n) is = absurd cc
nullable_size fabric greatest (bits64 n) is = absurd cc
nullable_size fabric greatest (structure es) is = absurd cc
nullable_size fabric greatest (array es) is = absurd cc
nullable_size fabric greatest (list es) is = absurd cc

nullable_octets_size : (fabric least most : ℕ) (v : Tree) → is_kept_as fabric (forms.NullableOctets least most) v ≡ true → size v ≤ most_size most + most
nullable_octets_size fabric least most (int z) is = absurd cc
nullable_octets_size fabric least most (uint n) is = absurd cc
nullable_octets_size fabric least most (bool b) is = absurd cc
nullable_octets_size fabric least most (text s) is = absurd cc
nullable_octets_size fabric least most (octets s) is = string_within most (length s) (and_parts (nat_le least (length s)) (nat_le (length s) most) is).1
nullable_octets_size fabric least most null is = omega arith
nullable_octets_size fabric least most (bits32 n) is = absurd cc
nullable_octets_size fabric least most (bits64 n) is = absurd cc
nullable_octets_size fabric least most (structure es) is = absurd cc
nullable_octets_size fabric least most (array es) is = absurd cc
nullable_octets_size fabric least most (list es) is = absurd cc

index_size : (fabric : ℕ) → number_size fabric ≤ 1 → (v : Tree) → is_kept_as fabric forms.FabricIndex v ≡ true → size v ≤ 1
index_size fabric small (int z) is = absurd cc
index_size fabric small (uint n) is = subst (λ (k : ℕ). number_size k ≤ 1) (sym (eqb-true n fabric is)) small
index_size fabric small (bool b) is = absurd cc
index_size fabric small (text s) is = absurd cc
index_size fabric small (octets s) is = absurd cc
index_size fabric small null is = absurd cc
index_size fabric small (bits32 n) is = absurd cc
index_size fabric small (bits64 n) is = absurd cc
index_size fabric small (structure es) is = absurd cc
index_size fabric small (array es) is = absurd cc
index_size fabric small (list es) is = absurd cc

pub field_size : (fabric : ℕ) → number_size fabric ≤ 1 → (form : Form) → is_sized form ≡ true → (v : Tree) → is_kept_as fabric form v ≡ true → size v ≤ form_size form
field_size fabric small forms.Bool sized v is = bool_size fabric v is
field_size fabric small (forms.Uint greatest) sized v is = uint_size fabric greatest v is
field_size fabric small (forms.Text least most) sized v is = text_size fabric least most v is
field_size fabric small (forms.Octets least most) sized v is = octets_size fabric least most v is
field_size fabric small forms.Subjects sized v is = absurd cc
field_size fabric small forms.Targets sized v is = absurd cc
field_size fabric small forms.FabricIndex sized v is = index_size fabric small v is
field_size fabric small (forms.NullableUint greatest) sized v is = nullable_size fabric greatest v is
field_size fabric small (forms.NullableOctets least most) sized v is = nullable_octets_size fabric least most v is
field_size fabric small forms.Structure sized v is = absurd cc
