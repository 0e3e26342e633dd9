-- Members in a vector, and further ones behind them.
use Rattle.std.proofs.Common.{◌≡◌, List, [], ◌∷◌, ◌++◌, refl, ap}
use Rattle.mt_tlv.specs.Tree.{Elements, none, more}
use Rattle.mt_tlv.specs.View.{elements, tree}
use Rattle.mt_tlv.specs.declared.value.Tag.{Tag}
use Rattle.mt_tlv.specs.declared.value.Value.{Value}

abbrev pub followed_by : List (Tag × Value) → Elements → Elements
followed_by [] rest = rest
followed_by (member ∷ members) rest = more member.0 (tree member.1) (followed_by members rest)

pub one_more : (members : List (Tag × Value)) (tag : Tag) (value : Value) (rest : Elements) → followed_by (members ++ (tag, value) ∷ []) rest ≡ followed_by members (more tag (tree value) rest)
one_more [] tag value rest = refl
one_more (member ∷ members) tag value rest = ap (λ (es : Elements). more member.0 (tree member.1) es) (one_more members tag value rest)

pub all_of : (members : List (Tag × Value)) → followed_by members none ≡ elements members
all_of [] = refl
all_of (member ∷ members) = ap (λ (es : Elements). more member.0 (tree member.1) es) (all_of members)
