-- The members of an array are its elements.
use Rattle.std.proofs.Common.{◌≡◌, List, [], ◌∷◌, refl}
use Rattle.mt_tlv.specs.Tree.{Tree, more}
use Rattle.mt_tlv.specs.View.{elements, tree, value_of}
use Rattle.mt_tlv.specs.declared.value.Tag.TheVariants.{Anonymous}
use Rattle.mt_model.specs.Trees.{untagged}
use Rattle.mt_lasting.specs.Arrays.{members}

-- By the law that the tree of a tree's value is the tree.
pub elements_members : ((t : Tree) → tree (value_of t) ≡ t) → {X : Type 0} (of : X → Tree) (xs : List X) → elements (members of xs) ≡ untagged of xs
elements_members law of [] = refl
elements_members law of (x ∷ xs) = λ i. more Anonymous (law (of x) i) (elements_members law of xs i)
