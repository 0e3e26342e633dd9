-- The same trees come of the same values, since a view forgets nothing of an element.
use Rattle.std.proofs.Common.{◌≡◌, ◌<◌, ℕ, List, [], ◌∷◌, length, get_or, refl, ap, sym, ◌∙◌}
use Rattle.std.proofs.lemmas.List.{get_or_default}
use Rattle.mt_tlv.specs.Tree.{Tree, int, uint, bool, text, octets, null, bits32, bits64, structure, array, list, Elements, none, more}
use Rattle.mt_tlv.specs.View.{tree, elements, value_of}
use Rattle.mt_tlv.specs.declared.value.Tag.{Tag}
use Rattle.mt_tlv.specs.declared.value.Value.{Value}
use Rattle.mt_tlv.specs.declared.value.Value.TheVariants as values

pub value_tree : (v : Value) → value_of (tree v) ≡ v
value_tree (values.Int z) = refl
value_tree (values.Uint n) = refl
value_tree (values.Bool b) = refl
value_tree (values.Text s) = refl
value_tree (values.Octets s) = refl
value_tree values.Null = refl
value_tree (values.Bits32 n) = refl
value_tree (values.Bits64 n) = refl
value_tree (values.Struct es) = refl
value_tree (values.Array es) = refl
value_tree (values.List es) = refl

pub tree_value : (t : Tree) → tree (value_of t) ≡ t
tree_value (int z) = refl
tree_value (uint n) = refl
tree_value (bool b) = refl
tree_value (text s) = refl
tree_value (octets s) = refl
tree_value null = refl
tree_value (bits32 n) = refl
tree_value (bits64 n) = refl
tree_value (structure es) = refl
tree_value (array es) = refl
tree_value (list es) = refl

abbrev members_of : Elements → List (Tag × Value)
members_of none = []
members_of (more t v es) = (t, value_of v) ∷ members_of es

members_of-elements : (ms : List (Tag × Value)) → members_of (elements ms) ≡ ms
members_of-elements [] = refl
members_of-elements (m ∷ ms) = λ i. (m.0, value_tree m.1 i) ∷ members_of-elements ms i

pub same_members : (ms ns : List (Tag × Value)) → elements ms ≡ elements ns → ms ≡ ns
same_members ms ns e = sym (members_of-elements ms) ∙ ap members_of e ∙ members_of-elements ns

-- what stands at one place of two equal lists
pub same_at : {X : Type 0} (xs ys : List X) (i : ℕ) (x y : X) → xs ≡ ys → i < length xs → x ≡ get_or xs i x → y ≡ get_or ys i y → x ≡ y
same_at xs ys i x y e lt at_x at_y = at_x ∙ get_or_default xs i x y lt ∙ ap (λ l. get_or l i y) e ∙ sym at_y
