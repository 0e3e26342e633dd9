-- Rules on lists, tested item by item.
use Rattle.std.proofs.Common.{◌≡◌, ℕ, suc, ◌+◌, ◌<◌, ◌==◌, Bool, not, ◌&&◌, List, ◌∷◌, length, drop, get_or, sym, ap, ◌∙◌, add-one}
use Rattle.std.specs.List.{list_any}
use Rattle.std.proofs.Math.Seq.{drop-cons}
use Rattle.mt_model.specs.texts.Config.{are_numbered_from, none_alike}
use Rattle.mt_model.specs.declared.tables.fabric.Fabric.{Fabric}

-- what is left from an item on
pub drop_at : {X : Type 0} (xs : List X) (i : ℕ) (x : X) → i < length xs → x ≡ get_or xs i x → drop i xs ≡ x ∷ drop (i + 1) xs
drop_at xs i x lt is = rw add-one (drop-cons xs i x lt ∙ ap (λ y. y ∷ drop (suc i) xs) (sym is))

pub numbered_at : (fabrics : List Fabric) (i index : ℕ) (fabric : Fabric) → i < length fabrics → fabric ≡ get_or fabrics i fabric
    → are_numbered_from index (drop i fabrics) ≡ ((fabric.index == index) && are_numbered_from (index + 1) (drop (i + 1) fabrics))
numbered_at fabrics i index fabric lt is = ap (are_numbered_from index) (drop_at fabrics i fabric lt is)

pub apart_at : {X : Type 0} (alike : X → X → Bool) (xs : List X) (i : ℕ) (x : X) → i < length xs → x ≡ get_or xs i x
    → none_alike alike (drop i xs) ≡ (not (list_any (alike x) (drop (i + 1) xs)) && none_alike alike (drop (i + 1) xs))
apart_at alike xs i x lt is = ap (none_alike alike) (drop_at xs i x lt is)
