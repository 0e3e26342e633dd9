-- An item of the fields of the table may stand in an element.
use Rattle.std.proofs.Common.{◌≡◌, inl, inr, refl, sym, subst, ap, ℕ, suc, ◌≤◌, ◌<◌, ◌^◌, ◌==◌, ◌&&◌, nat_le, nat_lt, Bool, true, false, List, [], ◌∷◌, ◌++◌, arith}
use Rattle.std.proofs.lemmas.Bool.{and_parts, cases_Bool, eqb-true, leb-true, ltb-true, or_parts}
use Rattle.mt_tlv.specs.Limits.{AreAllowed, IsAllowed, is_same_tag, is_tag_in}
use Rattle.mt_tlv.specs.Tree.{Tree, int, uint, bool, text, octets, null, bits32, bits64, structure, array, list, Elements, none, more}
use Rattle.mt_tlv.specs.declared.reading.Kind.TheVariants as kinds
use Rattle.mt_tlv.specs.declared.value.Tag.{Tag}
use Rattle.mt_tlv.specs.declared.value.Tag.TheVariants.{Anonymous, Context, Common, Implicit, Full}
use Rattle.mt_model.specs.Trees.{is_context}
use Rattle.mt_meta.specs.Fields.{are_kept_fields, is_kept_as, is_kept_item, may_be_missing}
use Rattle.mt_meta.specs.declared.rows.Field.{Field}
use Rattle.mt_lasting.proofs.AllowedForms.{field_allowed, is_bounding}

-- what is asked of fields: their numbers ascend from this one on and have 8 bits, and their forms bound what is kept
abbrev pub are_bounding : ℕ → List Field → Bool
are_bounding least [] = true
are_bounding least (field ∷ fields) = (nat_le least field.number && nat_lt field.number (2 ^ 8)) && (is_bounding field.form && are_bounding (suc field.number) fields)

-- Tags that were met.

-- none of them is the context tag of this number or of one above it
abbrev AreBefore : ℕ → List Tag → Type 0
AreBefore least tags = (n : ℕ) → least ≤ n → is_tag_in (Context n) tags ≡ false

not_in : (tag last : Tag) (tags : List Tag) → is_tag_in tag tags ≡ false → is_same_tag last tag ≡ false → is_tag_in tag (tags ++ last ∷ []) ≡ false
not_in tag last [] apart differ = rw differ refl
not_in tag last (t ∷ tags) apart differ =
    let both = or_parts (is_same_tag t tag) (is_tag_in tag tags) apart in
    rw both.0 (not_in tag last tags both.1 differ)

differs : (k n : ℕ) → k < n → is_same_tag (Context k) (Context n) ≡ false
differs k n less = elim (cases_Bool (k == n)) [
  | inl same ↦ absurd (omega (arith, less, eqb-true k n same))
  | inr differ ↦ differ
]

before_next : (least k : ℕ) (tags : List Tag) → least ≤ k → AreBefore least tags → AreBefore (suc k) (tags ++ Context k ∷ [])
before_next least k tags low before = λ n more. not_in (Context n) (Context k) tags (before n (omega (arith, low, more))) (differs k n more)

before_later : (least k : ℕ) (tags : List Tag) → least ≤ k → AreBefore least tags → AreBefore (suc k) tags
before_later least k tags low before = λ n more. before n (omega (arith, low, more))

-- Items.

context_is : (number : ℕ) (tag : Tag) → is_context number tag ≡ true → Context number ≡ tag
context_is number Anonymous is = absurd cc
context_is number (Context k) is = sym (ap Context (eqb-true k number is))
context_is number (Common k) is = absurd cc
context_is number (Implicit k) is = absurd cc
context_is number (Full v p k) is = absurd cc

module _ (fabric : ℕ) (fits : fabric < 2 ^ 64) (room : ℕ) where
  kept_allowed : (least : ℕ) (fields : List Field) (es : Elements) (tags : List Tag) → are_bounding least fields ≡ true → AreBefore least tags
      → are_kept_fields fabric fields es ≡ true → AreAllowed es kinds.Struct tags room
  kept_allowed least [] none tags bounding before kept = tt
  kept_allowed least [] (more tag v es) tags bounding before kept = absurd cc
  kept_allowed least (field ∷ fields) none tags bounding before kept = tt
  kept_allowed least (field ∷ fields) (more tag v es) tags bounding before kept =
      let both = and_parts (nat_le least field.number && nat_lt field.number (2 ^ 8)) (is_bounding field.form && are_bounding (suc field.number) fields) bounding in
      let number = and_parts (nat_le least field.number) (nat_lt field.number (2 ^ 8)) both.0 in
      let rest = and_parts (is_bounding field.form) (are_bounding (suc field.number) fields) both.1 in
      let low : least ≤ field.number = leb-true least field.number number.0 in
      elim (cases_Bool (is_context field.number tag)) [
        | inl here ↦
            let parts : (is_kept_as fabric field.form v && are_kept_fields fabric fields es) ≡ true = rw here at kept in
            let its = and_parts (is_kept_as fabric field.form v) (are_kept_fields fabric fields es) parts in
            let value = field_allowed fabric room fits field.form rest.0 v its.0 in
            let behind = kept_allowed (suc field.number) fields es (tags ++ Context field.number ∷ []) rest.1 (before_next least field.number tags low before) its.1 in
            subst (λ (t : Tag). AreAllowed (more t v es) kinds.Struct tags room) (context_is field.number tag here)
            (ltb-true field.number (2 ^ 8) number.1, (refl, before field.number low), value, behind)
        | inr missing ↦
            let parts : (may_be_missing field && are_kept_fields fabric fields (more tag v es)) ≡ true = rw missing at kept in
            let its = and_parts (may_be_missing field) (are_kept_fields fabric fields (more tag v es)) parts in
            kept_allowed (suc field.number) fields (more tag v es) tags rest.1 (before_later least field.number tags low before) its.1
      ]

  pub item_allowed : (fields : List Field) (item : Tree) → are_bounding 0 fields ≡ true → is_kept_item fields fabric item ≡ true → IsAllowed item (suc room)
  item_allowed fields (int z) bounding kept = absurd cc
  item_allowed fields (uint n) bounding kept = absurd cc
  item_allowed fields (bool b) bounding kept = absurd cc
  item_allowed fields (text s) bounding kept = absurd cc
  item_allowed fields (octets s) bounding kept = absurd cc
  item_allowed fields null bounding kept = absurd cc
  item_allowed fields (bits32 n) bounding kept = absurd cc
  item_allowed fields (bits64 n) bounding kept = absurd cc
  item_allowed fields (structure es) bounding kept = kept_allowed 0 fields es [] bounding (λ n low. refl) kept
  item_allowed fields (array es) bounding kept = absurd cc
  item_allowed fields (list es) bounding kept = absurd cc
