-- Members without the sensitive ones, as a filter.
use Rattle.std.proofs.Common.{◌≡◌, Bool, true, false, not, List, [], ◌∷◌, refl, ap, filter, if◌then◌else◌}
use Rattle.mt_tlv.specs.Tree.{Elements, more}
use Rattle.mt_tlv.specs.View.{elements, tree}
use Rattle.mt_tlv.specs.declared.value.Tag.{Tag}
use Rattle.mt_tlv.specs.declared.value.Value.{Value}
use Rattle.mt_model.specs.rows.Sight.{bare_elements, is_sensitive}
use Rattle.mt_model.specs.declared.rows.place.Place.{Place}

abbrev pub is_kept : Place → Tag × Value → Bool
is_kept place m = not (is_sensitive place m.0)

one_more : (m : Tag × Value) (kept : List (Tag × Value)) (rest : Elements) (sensitive : Bool) → elements kept ≡ rest
    → elements (if not sensitive then m ∷ kept else kept) ≡ (if sensitive then rest else more m.0 (tree m.1) rest)
one_more m kept rest true e = e
one_more m kept rest false e = ap (λ es. more m.0 (tree m.1) es) e

pub bare-filter : (place : Place) (ms : List (Tag × Value)) → elements (filter (is_kept place) ms) ≡ bare_elements place (elements ms)
bare-filter place [] = refl
bare-filter place (m ∷ ms) = one_more m (filter (is_kept place) ms) (bare_elements place (elements ms)) (is_sensitive place m.0) (bare-filter place ms)
