-- Lengths of blocks, by those of their fields.
use Rattle.std.proofs.Common.{◌≡◌, ℕ, zero, suc, ◌+◌, ◌-◌, ◌^◌, ◌<◌, ◌≤◌, min, List, [], ◌∷◌, ◌++◌, length, get_or, drop, Option, Some, None, sym, ap, ◌∙◌, arith, length-append}
use Rattle.std.proofs.lemmas.List.{drop_all}
use Rattle.mt_tlv.specs.Narrow.{end_of_container, length_and_value, narrow, narrow_elements, narrow_unsigned}
use Rattle.mt_tlv.specs.Tree.{Elements, uint, none, tree_size, elements_size}
use Rattle.mt_tlv.specs.View.{elements, tree}
use Rattle.mt_tlv.specs.declared.value.Tag.{Tag}
use Rattle.mt_tlv.specs.declared.value.Tag.TheVariants.{Context}
use Rattle.mt_tlv.specs.declared.value.Value.{Value}
use Rattle.mt_model.specs.messages.Blocks.{optional_number, index_field, path_tree, event_path_tree}
use Rattle.mt_model.specs.declared.messages.message.Index.{Index}
use Rattle.mt_model.specs.declared.messages.message.Index.TheVariants.{At}
use Rattle.mt_model.specs.declared.messages.message.Path.{Path}

-- a value is smaller than the members that it stands among
member_smaller : (ms : List (Tag × Value)) (i : ℕ) (d : Tag × Value) → i < length ms → tree_size (tree (get_or ms i d).1) < elements_size (elements ms)
member_smaller [] i d lt = absurd (omega arith)
member_smaller (m ∷ ms) zero d lt = omega arith
member_smaller (m ∷ ms) (suc i) d lt = omega (arith, member_smaller ms i d (omega arith))

abbrev optional_length : Option ℕ → ℕ
optional_length None = 0
optional_length (Some n) = 2 + length (narrow_unsigned n)

one_number : (tag : ℕ) (n : Option ℕ) (others : Elements) → length (narrow_elements (optional_number tag n others)) ≡ optional_length n + length (narrow_elements others)
one_number tag None others = omega arith
one_number tag (Some n) others = omega (arith, length-append (narrow_unsigned n) (narrow_elements others))

abbrev three_numbers : ℕ → ℕ → ℕ → Path → Elements → Elements
three_numbers s t u path others = optional_number s path.endpoint (optional_number t path.cluster (optional_number u path.leaf others))

numbers-length : (s t u : ℕ) (path : Path) (others : Elements)
    → length (narrow_elements (three_numbers s t u path others)) ≡ optional_length path.endpoint + optional_length path.cluster + optional_length path.leaf + length (narrow_elements others)
numbers-length s t u path others = omega (
  arith,
  one_number s path.endpoint (optional_number t path.cluster (optional_number u path.leaf others)),
  one_number t path.cluster (optional_number u path.leaf others),
  one_number u path.leaf others,
)

-- the path of an attribute is that of an event and its list index
pub path_with : (path : Path) (index : Index) (ids field : ℕ) → path.index ≡ index → ids ≡ length (length_and_value (event_path_tree path)) → field ≡ length (narrow_elements (index_field index)) → ids + field ≡ length (length_and_value (path_tree path))
path_with path index ids field at e f =
    let last : length (narrow_elements (index_field path.index)) ≡ field = ap (λ index. length (narrow_elements (index_field index))) at ∙ sym f in
    rw e (simp length-append (omega (arith, last, numbers-length 2 3 4 path (index_field path.index), numbers-length 1 2 3 path none)))

pub path_at : (path : Path) (n ids field : ℕ) → path.index ≡ At n → ids ≡ length (length_and_value (event_path_tree path)) → field ≡ length (narrow (Context 0) (uint n)) → ids + field ≡ length (length_and_value (path_tree path))
path_at path n ids field at e f = path_with path (At n) ids field at e (omega (arith, length-append (narrow_unsigned n) []))

-- a value among the members is smaller than what they were seen as
pub member_falls : (all : List (Tag × Value)) (i : ℕ) (m : Tag × Value) (es : Elements) → elements all ≡ es → i < length all → m ≡ get_or all i m → tree_size (tree m.1) < elements_size es
member_falls all i m es e lt at = rw (← e, at) (member_smaller all i m lt)

-- with no member left, what was counted is the length of all and of the end of their container
pub all_counted : (all : List (Tag × Value)) (i total : ℕ) (es : Elements) → length all ≤ i → total ≤ 2 ^ 64 - 1 → elements all ≡ es
    → min (total + length (narrow_elements (elements (drop i all)))) (2 ^ 64 - 1) ≡ min (1 + length (narrow_elements (elements all))) (2 ^ 64 - 1)
    → total ≡ min (length (narrow_elements es ++ end_of_container ∷ [])) (2 ^ 64 - 1)
all_counted all i total es past fits e counted =
    let rest : length (narrow_elements (elements (drop i all))) ≡ 0 = ap (λ ms. length (narrow_elements (elements ms))) (drop_all i all past) in
    rw (← e) (omega (arith, rest, length-append (narrow_elements (elements all)) (end_of_container ∷ [])))
