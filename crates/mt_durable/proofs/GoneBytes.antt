-- The bytes of an entry up to behind its key, which an entry without a value has as well.
use Rattle.std.proofs.Common.{◌≡◌, ◌+◌, ℕ, List, [], ◌∷◌, ◌++◌, length, take, sym, ap, ◌∙◌, append_assoc, append-nil, arith}
use Rattle.std.proofs.lemmas.List.{take_at}
use Rattle.mt_tlv.specs.Narrow.{narrow, narrow_elements}
use Rattle.mt_tlv.specs.Tree.{octets}
use Rattle.mt_tlv.specs.declared.value.Tag.TheVariants.{Context}
use Rattle.mt_durable.specs.Changes.{value_field}
use Rattle.mt_durable.specs.Differences.{gone}
use Rattle.mt_durable.specs.Fronts.{entry_bytes}
use Rattle.mt_durable.specs.Lengths.{string_length}
use Rattle.mt_durable.specs.declared.durable.Entry.{Entry}
use Rattle.mt_durable.proofs.Lengths.{string_bytes}

-- the front of the structure, and the key
abbrev up_to_key : List ℕ → List ℕ
up_to_key key = 21 ∷ narrow (Context 0) (octets key)

length_up_to_key : (key : List ℕ) → length (up_to_key key) ≡ 3 + string_length (length key)
length_up_to_key key = omega (arith, string_bytes key)

entry_parts : (one : Entry) → entry_bytes one ≡ up_to_key one.key ++ (narrow_elements (value_field one.value) ++ 24 ∷ [])
entry_parts one = append_assoc (up_to_key one.key) (narrow_elements (value_field one.value)) (24 ∷ [])

-- what stands in front of the value, and the end behind it
pub gone_bytes : (one : Entry) (key bytes : List ℕ) → key ≡ one.key → bytes ≡ entry_bytes one → take (3 + string_length (length key)) bytes ++ 24 ∷ [] ≡ entry_bytes (gone one)
gone_bytes one key bytes is same =
    ap (λ (k : List ℕ). take (3 + string_length (length k)) bytes ++ 24 ∷ []) is
    ∙ ap (λ (l : List ℕ). take (3 + string_length (length one.key)) l ++ 24 ∷ []) (same ∙ entry_parts one)
    ∙ ap (λ (l : List ℕ). l ++ 24 ∷ []) (take_at (up_to_key one.key) (narrow_elements (value_field one.value) ++ 24 ∷ []) (3 + string_length (length one.key)) (length_up_to_key one.key))
    ∙ ap (λ (l : List ℕ). l ++ 24 ∷ []) (sym (append-nil (up_to_key one.key)))
