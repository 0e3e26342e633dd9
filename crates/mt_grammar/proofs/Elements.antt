-- The elements of a container, and the members that they are of.
use Rattle.std.proofs.Common.{◌≡◌, ◌==◌, ◌&&◌, ◌∙◌, ℕ, ◌<◌, Bool, true, false, List, [], ◌∷◌, length, refl, ap, add-one, rules}
use Rattle.std.specs.List.{list_all}
use Rattle.mt_tlv.specs.Limits.{is_anonymous}
use Rattle.mt_tlv.specs.Tree.{Tree, Elements, more}
use Rattle.mt_tlv.specs.View.{elements, tree}
use Rattle.mt_tlv.specs.declared.value.Tag.{Tag}
use Rattle.mt_tlv.specs.declared.value.Tag.TheVariants.{Anonymous, Context, Common, Implicit, Full}
use Rattle.mt_tlv.specs.declared.value.Value.{Value}
use Rattle.mt_meta.specs.Fields.{are_kept_fields}
use Rattle.mt_meta.specs.Forms.{all_in, count_in}
use Rattle.mt_meta.specs.declared.rows.Field.{Field}
use Rattle.mt_grammar.specs.Fields.{are_untagged}

pub untagged_of_elements : (members : List (Tag × Value)) → are_untagged (elements members) ≡ list_all (λ (m : Tag × Value). is_anonymous m.0) members
untagged_of_elements [] = refl
untagged_of_elements (m ∷ members) = ap (λ rest. is_anonymous m.0 && rest) (untagged_of_elements members)

pub count_of_elements : (members : List (Tag × Value)) → count_in (elements members) ≡ length members
count_of_elements [] = refl
count_of_elements (m ∷ members) = rw (count_of_elements members) (add-one (length members))

-- behind the last field of an item nothing stands
pub none_of_elements : (fabric : ℕ) (fields : List Field) (members : List (Tag × Value)) → length fields < 1 → (length members == 0) ≡ are_kept_fields fabric fields (elements members)
none_of_elements fabric [] [] h = refl
none_of_elements fabric [] (m ∷ members) h = search rules
none_of_elements fabric (f ∷ fields) members h = search rules

and_swapped : (a b c : Bool) → (a && (b && c)) ≡ (b && (a && c))
and_swapped true b c = refl
and_swapped false true c = refl
and_swapped false false c = refl

all_more : (test : Tree → Bool) (tag : Tag) (v : Tree) (es : Elements) (rest : Bool) → all_in test es ≡ (are_untagged es && rest)
    → all_in test (more tag v es) ≡ ((is_anonymous tag && are_untagged es) && (test v && rest))
all_more test Anonymous v es rest e = ap (λ b. test v && b) e ∙ and_swapped (test v) (are_untagged es) rest
all_more test (Context n) v es rest e = refl
all_more test (Common n) v es rest e = refl
all_more test (Implicit n) v es rest e = refl
all_more test (Full p q n) v es rest e = refl

-- that no element has a tag and that each passes a test, in one
pub all_of_elements : (test : Tree → Bool) (members : List (Tag × Value)) → all_in test (elements members) ≡ (are_untagged (elements members) && list_all (λ (m : Tag × Value). test (tree m.1)) members)
all_of_elements test [] = refl
all_of_elements test (m ∷ members) = all_more test m.0 (tree m.1) (elements members) (list_all (λ (n : Tag × Value). test (tree n.1)) members) (all_of_elements test members)
