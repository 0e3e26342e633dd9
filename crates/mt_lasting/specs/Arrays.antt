-- The elements of an array as members without tags.
use Rattle.std.specs.Prelude.{List, map}
use Rattle.mt_tlv.specs.Tree.{Tree}
use Rattle.mt_tlv.specs.View.{value_of}
use Rattle.mt_tlv.specs.declared.value.Tag.{Tag}
use Rattle.mt_tlv.specs.declared.value.Tag.TheVariants.{Anonymous}
use Rattle.mt_tlv.specs.declared.value.Value.{Value}

abbrev pub member : {X : Type 0} → (X → Tree) → X → Tag × Value
member of x = (Anonymous, value_of (of x))

abbrev pub members : {X : Type 0} → (X → Tree) → List X → List (Tag × Value)
members of xs = map (member of) xs
