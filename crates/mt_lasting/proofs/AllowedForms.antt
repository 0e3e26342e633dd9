-- What is kept under a field of a form may stand in an element.
use Rattle.std.proofs.Common.{◌≡◌, ℕ, ◌≤◌, ◌<◌, ◌^◌, nat_le, nat_lt, Bool, true, false, length, subst, sym}
use Rattle.std.proofs.lemmas.Bool.{and_parts, eqb-true, leb-true, ltb-true}
use Rattle.mt_tlv.specs.Limits.{IsAllowed, longest}
use Rattle.mt_tlv.specs.Tree.{Tree, int, uint, bool, text, octets, null, bits32, bits64, structure, array, list}
use Rattle.mt_meta.specs.Fields.{is_kept_as, is_text, text_fits}
use Rattle.mt_meta.specs.declared.rows.Form.{Form}
use Rattle.mt_meta.specs.declared.rows.Form.TheVariants as forms
use Rattle.mt_lasting.proofs.AllowedTrees.{number_allowed, string_allowed}

-- what is asked of a form: it bounds what is kept
abbrev pub is_bounding : Form → Bool
is_bounding forms.Bool = true
is_bounding (forms.Uint greatest) = nat_lt greatest (2 ^ 64)
is_bounding (forms.Text least most) = nat_le most longest
is_bounding (forms.Octets least most) = nat_le most longest
is_bounding forms.Subjects = false
is_bounding forms.Targets = false
is_bounding forms.FabricIndex = true
is_bounding (forms.NullableUint greatest) = nat_lt greatest (2 ^ 64)
is_bounding (forms.NullableOctets least most) = nat_le most longest
is_bounding forms.Structure = false

-- By the form.

module _ (fabric room : ℕ) where
  bool_allowed : (v : Tree) → is_kept_as fabric forms.Bool v ≡ true → IsAllowed v room
  bool_allowed (int z) is = absurd cc
  bool_allowed (uint n) is = absurd cc
  bool_allowed (bool b) is = tt
  bool_allowed (text s) is = absurd cc
  bool_allowed (octets s) is = absurd cc
  bool_allowed null is = absurd cc
  bool_allowed (bits32 n) is = absurd cc
  bool_allowed (bits64 n) is = absurd cc
  bool_allowed (structure es) is = absurd cc
  bool_allowed (array es) is = absurd cc
  bool_allowed (list es) is = absurd cc

  uint_allowed : (greatest : ℕ) → greatest < 2 ^ 64 → (v : Tree) → is_kept_as fabric (forms.Uint greatest) v ≡ true → IsAllowed v room
  uint_allowed greatest low (int z) is = absurd cc
  uint_allowed greatest low (uint n) is = number_allowed greatest n low (and_parts (nat_le n greatest) true is).0
  uint_allowed greatest low (bool b) is = absurd cc
  uint_allowed greatest low (text s) is = absurd cc
  uint_allowed greatest low (octets s) is = absurd cc
  uint_allowed greatest low null is = absurd cc
  uint_allowed greatest low (bits32 n) is = absurd cc
  uint_allowed greatest low (bits64 n) is = absurd cc
  uint_allowed greatest low (structure es) is = absurd cc
  uint_allowed greatest low (array es) is = absurd cc
  uint_allowed greatest low (list es) is = absurd cc

  text_allowed : (least most : ℕ) → most ≤ longest → (v : Tree) → is_kept_as fabric (forms.Text least most) v ≡ true → IsAllowed v room
  text_allowed least most low (int z) is = absurd cc
  text_allowed least most low (uint n) is = absurd cc
  text_allowed least most low (bool b) is = absurd cc
  text_allowed least most low (text s) is =
      let both = and_parts (is_text (text s)) (text_fits least most (text s)) is in
      (string_allowed most s low (and_parts (nat_le least (length s)) (nat_le (length s) most) both.1).1, both.0)
  text_allowed least most low (octets s) is = absurd cc
  text_allowed least most low null is = absurd cc
  text_allowed least most low (bits32 n) is = absurd cc
  text_allowed least most low (bits64 n) is = absurd cc
  text_allowed least most low (structure es) is = absurd cc
  text_allowed least most low (array es) is = absurd cc
  text_allowed least most low (list es) is = absurd cc

  octets_allowed : (least most : ℕ) → most ≤ longest → (v : Tree) → is_kept_as fabric (forms.Octets least most) v ≡ true → IsAllowed v room
  octets_allowed least most low (int z) is = absurd cc
  octets_allowed least most low (uint n) is = absurd cc
  octets_allowed least most low (bool b) is = absurd cc
  octets_allowed least most low (text s) is = absurd cc
  octets_allowed least most low (octets s) is = string_allowed most s low (and_parts (nat_le least (length s)) (nat_le (length s) most) is).1
  octets_allowed least most low null is = absurd cc
  octets_allowed least most low (bits32 n) is = absurd cc
  octets_allowed least most low (bits64 n) is = absurd cc
  octets_allowed least most low (structure es) is = absurd cc
  octets_allowed least most low (array es) is = absurd cc
  octets_allowed least most low (list es) is = absurd cc

  nullable_allowed : (greatest : ℕ) → greatest < 2 ^ 64 → (v : Tree) → is_kept_as fabric (forms.NullableUint greatest) v ≡ true → IsAllowed v room
  nullable_allowed greatest low (int z) is = absurd cc
  nullable_allowed greatest low (uint n) is = number_allowed greatest n low (and_parts (nat_le n greatest) true is).0
  nullable_allowed greatest low (bool b) is = absurd cc
  nullable_allowed greatest low (text s) is = absurd cc
  nullable_allowed greatest low (octets s) is = absurd cc
  nullable_allowed greatest low null is = tt
  nullable_allowed greatest low (bits32 n) is = absurd cc
  nullable_allowed greatest low (bits64 n) is = absurd cc
  nullable_allowed greatest low (structure es) is = absurd cc
  nullable_allowed greatest low (array es) is = absurd cc
  nullable_allowed greatest low (list es) is = absurd cc

  nullable_octets_allowed : (least most : ℕ) → most ≤ longest → (v : Tree) → is_kept_as fabric (forms.NullableOctets least most) v ≡ true → IsAllowed v room
  nullable_octets_allowed least most low (int z) is = absurd cc
  nullable_octets_allowed least most low (uint n) is = absurd cc
  nullable_octets_allowed least most low (bool b) is = absurd cc
  nullable_octets_allowed least most low (text s) is = absurd cc
  nullable_octets_allowed least most low (octets s) is = string_allowed most s low (and_parts (nat_le least (length s)) (nat_le (length s) most) is).1
  nullable_octets_allowed least most low null is = tt
  nullable_octets_allowed least most low (bits32 n) is = absurd cc
  nullable_octets_allowed least most low (bits64 n) is = absurd cc
  nullable_octets_allowed least most low (structure es) is = absurd cc
  nullable_octets_allowed least most low (array es) is = absurd cc
  nullable_octets_allowed least most low (list es) is = absurd cc

  index_allowed : fabric < 2 ^ 64 → (v : Tree) → is_kept_as fabric forms.FabricIndex v ≡ true → IsAllowed v room
  index_allowed fits (int z) is = absurd cc
  index_allowed fits (uint n) is = subst (λ (k : ℕ). k < 2 ^ 64) (sym (eqb-true n fabric is)) fits
  index_allowed fits (bool b) is = absurd cc
  index_allowed fits (text s) is = absurd cc
  index_allowed fits (octets s) is = absurd cc
  index_allowed fits null is = absurd cc
  index_allowed fits (bits32 n) is = absurd cc
  index_allowed fits (bits64 n) is = absurd cc
  index_allowed fits (structure es) is = absurd cc
  index_allowed fits (array es) is = absurd cc
  index_allowed fits (list es) is = absurd cc

  pub field_allowed : fabric < 2 ^ 64 → (form : Form) → is_bounding form ≡ true → (v : Tree) → is_kept_as fabric form v ≡ true → IsAllowed v room
  field_allowed fits forms.Bool low v is = bool_allowed v is
  field_allowed fits (forms.Uint greatest) low v is = uint_allowed greatest (ltb-true greatest (2 ^ 64) low) v is
  field_allowed fits (forms.Text least most) low v is = text_allowed least most (leb-true most longest low) v is
  field_allowed fits (forms.Octets least most) low v is = octets_allowed least most (leb-true most longest low) v is
  field_allowed fits forms.Subjects low v is = absurd cc
  field_allowed fits forms.Targets low v is = absurd cc
  field_allowed fits forms.FabricIndex low v is = index_allowed fits v is
  field_allowed fits (forms.NullableUint greatest) low v is = nullable_allowed greatest (ltb-true greatest (2 ^ 64) low) v is
  field_allowed fits (forms.NullableOctets least most) low v is = nullable_octets_allowed least most (leb-true most longest low) v is
  field_allowed fits forms.Structure low v is = absurd cc
