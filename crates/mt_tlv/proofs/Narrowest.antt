-- The narrow encoding is a spelling.
use Rattle.std.proofs.Common.{◌≡◌, ℕ, zero, suc, ◌^◌, ◌<◌, ◌≤◌, Bool, true, false, List, [], ◌∷◌, ◌++◌, length, Ok, refl, append_assoc, arith, ◌⊎◌, inl, inr}
use Rattle.std.specs.Prelude.{ℤ}
use Rattle.std.proofs.lemmas.Bool.{lt-ltb, le-ltb, cases_lt}
use Rattle.mt_tlv.specs.declared.value.Tag.{Tag}
use Rattle.mt_tlv.specs.declared.value.Tag.TheVariants.{Anonymous, Context, Common, Implicit, Full}
use Rattle.mt_tlv.specs.declared.reading.Kind.{Kind}
use Rattle.mt_tlv.specs.declared.reading.Kind.TheVariants as kinds
use Rattle.mt_tlv.specs.Tree.{Tree, int, uint, bool, text, octets, null, bits32, bits64, structure, array, list, Elements, none, more}
use Rattle.mt_tlv.specs.Narrow.{little_endian, width_of, signed_width_of, fits_beside_sign, tag_control, tag_field, element_type, length_and_value, narrow_elements, narrow, opening}
use Rattle.mt_tlv.specs.Spelling.{IsTagField, IsOpening, IsBody, AreSpelled, bits_beside_sign}
use Rattle.mt_tlv.specs.Limits.{IsTag, IsAllowed, AreAllowed, IsElement}
use Rattle.mt_tlv.specs.Reading.{element_at}
use Rattle.mt_tlv.proofs.Again.{element_again}

-- a width in which the number fits
record FitsIn (n w : ℕ) : Type 0 where
  small : w < 4
  fits : n < 256 ^ (2 ^ w)

width_fits : (n : ℕ) → n < 2 ^ 64 → FitsIn n (width_of n)
width_fits n lt =
    elim (cases_lt n 256) [
      | inl a ↦ rw (lt-ltb n 256 a) (record { small = omega arith; fits = a })
      | inr a ↦ elim (cases_lt n 65536) [
        | inl b ↦ rw (le-ltb n 256 a, lt-ltb n 65536 b) (record { small = omega arith; fits = b })
        | inr b ↦ elim (cases_lt n 4294967296) [
          | inl c ↦ rw (le-ltb n 256 a, le-ltb n 65536 b, lt-ltb n 4294967296 c) (record { small = omega arith; fits = c })
          | inr c ↦ rw (le-ltb n 256 a, le-ltb n 65536 b, le-ltb n 4294967296 c) (record { small = omega arith; fits = lt })
        ]
      ]
    ]

record FitsSignedIn (z : ℤ) (w : ℕ) : Type 0 where
  small : w < 4
  fits : fits_beside_sign (bits_beside_sign w) z ≡ true

decided : (b : Bool) → (b ≡ true) ⊎ (b ≡ false)
decided true = inl refl
decided false = inr refl

signed_width_fits : (z : ℤ) → fits_beside_sign 63 z ≡ true → FitsSignedIn z (signed_width_of z)
signed_width_fits z h =
    elim (decided (fits_beside_sign 7 z)) [
      | inl a ↦ rw a (record { small = omega arith; fits = a })
      | inr a ↦ elim (decided (fits_beside_sign 15 z)) [
        | inl b ↦ rw (a, b) (record { small = omega arith; fits = b })
        | inr b ↦ elim (decided (fits_beside_sign 31 z)) [
          | inl c ↦ rw (a, b, c) (record { small = omega arith; fits = c })
          | inr c ↦ rw (a, b, c) (record { small = omega arith; fits = h })
        ]
      ]
    ]

tag_field_spells : (tag : Tag) → IsTag tag → IsTagField tag (tag_control tag) (tag_field tag)
tag_field_spells Anonymous h = (refl, refl)
tag_field_spells (Context n) h = (refl, refl)
tag_field_spells (Common n) h =
    elim (cases_lt n 65536) [
      | inl a ↦ rw (lt-ltb n 65536 a) (false, refl, (a, refl))
      | inr a ↦ rw (le-ltb n 65536 a) (true, refl, (h, refl))
    ]
tag_field_spells (Implicit n) h =
    elim (cases_lt n 65536) [
      | inl a ↦ rw (lt-ltb n 65536 a) (false, refl, (a, refl))
      | inr a ↦ rw (le-ltb n 65536 a) (true, refl, (h, refl))
    ]
tag_field_spells (Full v p n) h =
    elim (cases_lt n 65536) [
      | inl a ↦ rw (lt-ltb n 65536 a) (false, little_endian 2 n, refl, h.0, h.1, (a, refl), refl)
      | inr a ↦ rw (le-ltb n 65536 a) (true, little_endian 4 n, refl, h.0, h.1, (h.2, refl), refl)
    ]

opening_spells : (tag : Tag) (type : ℕ) → IsTag tag → IsOpening tag type (opening tag type)
opening_spells tag type h = (tag_control tag, tag_field tag, tag_field_spells tag h, refl)

mutual
  body_spells : (v : Tree) (room : ℕ) → IsAllowed v room → IsBody v (element_type v) (length_and_value v)
  body_spells (int z) room h = let w = signed_width_fits z h in (w.small, w.fits, refl)
  body_spells (uint n) room h = let w = width_fits n h in (width_of n, w.small, refl, w.fits, refl)
  body_spells (bool b) room h = (refl, refl)
  body_spells (text s) room h = let few = h.0 in let w = width_fits (length s) (omega (arith, few)) in (width_of (length s), w.small, refl, w.fits, refl)
  body_spells (octets s) room h = let w = width_fits (length s) (omega (arith, h)) in (width_of (length s), w.small, refl, w.fits, refl)
  body_spells null room h = (refl, refl)
  body_spells (bits32 n) room h = (refl, h, refl)
  body_spells (bits64 n) room h = (refl, h, refl)
  body_spells (structure es) zero h = absurd h
  body_spells (structure es) (suc room) h = (narrow_elements es, refl, elements_spell es kinds.Struct [] room h, refl)
  body_spells (array es) zero h = absurd h
  body_spells (array es) (suc room) h = (narrow_elements es, refl, elements_spell es kinds.Array [] room h, refl)
  body_spells (list es) zero h = absurd h
  body_spells (list es) (suc room) h = (narrow_elements es, refl, elements_spell es kinds.List [] room h, refl)

  elements_spell : (es : Elements) (kind : Kind) (tags : List Tag) (room : ℕ) → AreAllowed es kind tags room → AreSpelled es (narrow_elements es)
  elements_spell none kind tags room h = refl
  elements_spell (more tag v es) kind tags room h = (
    element_type v,
    opening tag (element_type v),
    length_and_value v,
    narrow_elements es,
    opening_spells tag (element_type v) h.0,
    body_spells v room h.2,
    elements_spell es kind (tags ++ tag ∷ []) room h.3,
    append_assoc (opening tag (element_type v)) (length_and_value v) (narrow_elements es),
  )

pub narrow_element : (tag : Tag) (v : Tree) → IsTag tag → IsAllowed v 16 → length (narrow tag v) ≤ 65535 → IsElement tag v (narrow tag v)
narrow_element tag v fits h short = record {
  spelled = (element_type v, opening tag (element_type v), length_and_value v, opening_spells tag (element_type v) fits, body_spells v 16 h, refl);
  tag_fits = fits;
  allowed = h;
  short = short;
}

pub narrow_again : (tag : Tag) (v : Tree) (rest : List ℕ) → IsTag tag → IsAllowed v 16 → length (narrow tag v) ≤ 65535 → element_at (narrow tag v ++ rest) ≡ Ok ((tag, v), rest)
narrow_again tag v rest fits h short = element_again tag v (narrow tag v) rest (narrow_element tag v fits h short)
