-- The elements of a container, and the members that they are of.
use Rattle.std.proofs.Common.{◌≡◌, ◌&&◌, Bool, List, [], ◌∷◌, refl, ap}
use Rattle.std.specs.List.{list_all}
use Rattle.mt_tlv.specs.Tree.{Tree}
use Rattle.mt_tlv.specs.View.{elements, tree}
use Rattle.mt_tlv.specs.declared.value.Tag.{Tag}
use Rattle.mt_tlv.specs.declared.value.Value.{Value}
use Rattle.mt_meta.specs.Fields.{all_elements}

pub all_of_elements : (test : Tree → Bool) (members : List (Tag × Value)) → all_elements test (elements members) ≡ list_all (λ (m : Tag × Value). test (tree m.1)) members
all_of_elements test [] = refl
all_of_elements test (m ∷ members) = ap (λ rest. test (tree m.1) && rest) (all_of_elements test members)
