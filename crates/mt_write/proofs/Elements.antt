-- Elements of containers, and the members that they are of.
use Rattle.std.proofs.Common.{◌≡◌, ◌++◌, List, [], ◌∷◌, length, map, refl, ap, rules}
use Rattle.mt_tlv.specs.Tree.{none, more}
use Rattle.mt_tlv.specs.declared.value.Tag.TheVariants.{Anonymous}
use Rattle.mt_tlv.specs.View.{elements, tree}
use Rattle.mt_tlv.specs.declared.value.Tag.{Tag}
use Rattle.mt_tlv.specs.declared.value.Value.{Value}
use Rattle.mt_write.specs.Writing.{with_items}
use Rattle.mt_meta.specs.Forms.{count_in}

pub count_in_elements : (members : List (Tag × Value)) → count_in (elements members) ≡ length members
count_in_elements [] = refl
count_in_elements (m ∷ members) = rw (count_in_elements members) (search rules)

-- an item as an element
abbrev pub untagged : Value → Tag × Value
untagged value = (Anonymous, value)

pub items_alone : (items : List Value) → elements (map untagged items) ≡ with_items none items
items_alone [] = refl
items_alone (item ∷ items) = ap (λ es. more Anonymous (tree item) es) (items_alone items)

pub elements_with_items : (members : List (Tag × Value)) (items : List Value) → elements (members ++ map untagged items) ≡ with_items (elements members) items
elements_with_items [] items = items_alone items
elements_with_items (m ∷ members) items = ap (λ es. more m.0 (tree m.1) es) (elements_with_items members items)
