-- How many bytes an item takes at most, by the fields of the table.
use Rattle.std.proofs.Common.{◌≡◌, inl, inr, ℕ, ◌+◌, ◌≤◌, ◌&&◌, Bool, true, List, [], ◌∷◌, refl, arith}
use Rattle.std.proofs.lemmas.Bool.{and_parts, cases_Bool}
use Rattle.std.specs.List.{list_all}
use Rattle.mt_tlv.specs.Tree.{Tree, int, uint, bool, text, octets, null, bits32, bits64, structure, array, list, Elements, none, more}
use Rattle.mt_tlv.specs.declared.value.Tag.{Tag}
use Rattle.mt_tlv.specs.declared.value.Tag.TheVariants.{Anonymous, Context, Common, Implicit, Full}
use Rattle.mt_model.specs.Trees.{is_context}
use Rattle.mt_meta.specs.Fields.{are_kept_fields, is_kept_as, is_kept_item, may_be_missing}
use Rattle.mt_meta.specs.declared.rows.Field.{Field}
use Rattle.mt_lasting.proofs.FormSizes.{field_size, form_size, is_sized}
use Rattle.mt_lasting.proofs.TreeSizes.{number_size, size, sizes, tag_size}

-- each with its tag
abbrev pub fields_size : List Field → ℕ
fields_size [] = 0
fields_size (field ∷ fields) = 2 + form_size field.form + fields_size fields

abbrev pub is_sized_field : Field → Bool
is_sized_field field = is_sized field.form

context_size : (number : ℕ) (tag : Tag) → is_context number tag ≡ true → tag_size tag ≡ 2
context_size number Anonymous is = absurd cc
context_size number (Context k) is = refl
context_size number (Common k) is = absurd cc
context_size number (Implicit k) is = absurd cc
context_size number (Full v p k) is = absurd cc

module _ (fabric : ℕ) (small : number_size fabric ≤ 1) where
  pub kept_sizes : (fields : List Field) (es : Elements) → list_all is_sized_field fields ≡ true → are_kept_fields fabric fields es ≡ true → sizes es ≤ fields_size fields
  kept_sizes [] none sized kept = omega arith
  kept_sizes [] (more tag v es) sized kept = absurd cc
  kept_sizes (field ∷ fields) none sized kept = omega arith
  kept_sizes (field ∷ fields) (more tag v es) sized kept =
      let both = and_parts (is_sized_field field) (list_all is_sized_field fields) sized in
      elim (cases_Bool (is_context field.number tag)) [
        | inl here ↦
            let parts : (is_kept_as fabric field.form v && are_kept_fields fabric fields es) ≡ true = rw here at kept in
            let its = and_parts (is_kept_as fabric field.form v) (are_kept_fields fabric fields es) parts in
            omega (arith, context_size field.number tag here, field_size fabric small field.form both.0 v its.0, kept_sizes fields es both.1 its.1)
        | inr missing ↦
            let parts : (may_be_missing field && are_kept_fields fabric fields (more tag v es)) ≡ true = rw missing at kept in
            let its = and_parts (may_be_missing field) (are_kept_fields fabric fields (more tag v es)) parts in
            omega (arith, kept_sizes fields (more tag v es) both.1 its.1)
      ]

  pub item_size : (fields : List Field) (item : Tree) → list_all is_sized_field fields ≡ true → is_kept_item fields fabric item ≡ true → size item ≤ fields_size fields + 1
  item_size fields (int z) sized kept = absurd cc
  item_size fields (uint n) sized kept = absurd cc
  item_size fields (bool b) sized kept = absurd cc
  item_size fields (text s) sized kept = absurd cc
  item_size fields (octets s) sized kept = absurd cc
  item_size fields null sized kept = absurd cc
  item_size fields (bits32 n) sized kept = absurd cc
  item_size fields (bits64 n) sized kept = absurd cc
  item_size fields (structure es) sized kept = omega (arith, kept_sizes fields es sized kept)
  item_size fields (array es) sized kept = absurd cc
  item_size fields (list es) sized kept = absurd cc
