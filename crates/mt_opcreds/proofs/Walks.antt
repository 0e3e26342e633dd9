-- Fabrics, looked at one by one.
use Rattle.std.proofs.Common.{◌≡◌, ℕ, suc, ◌+◌, ◌<◌, ◌==◌, ◌||◌, List, ◌∷◌, length, drop, get_or, sym, ap, ◌∙◌, add-one, drop-cons}
use Rattle.mt_model.specs.declared.tables.fabric.Fabric.{Fabric}
use Rattle.mt_fabrics.specs.Table.{is_used}

-- what is left from a fabric on
drop_at : (fabrics : List Fabric) (i : ℕ) (fabric : Fabric) → i < length fabrics → fabric ≡ get_or fabrics i fabric → drop i fabrics ≡ fabric ∷ drop (i + 1) fabrics
drop_at fabrics i fabric lt is = rw add-one (drop-cons fabrics i fabric lt ∙ ap (λ (f : Fabric). f ∷ drop (suc i) fabrics) (sym is))

pub used_at : (fabrics : List Fabric) (i index : ℕ) (fabric : Fabric) → i < length fabrics → fabric ≡ get_or fabrics i fabric
    → is_used index (drop i fabrics) ≡ ((fabric.index == index) || is_used index (drop (i + 1) fabrics))
used_at fabrics i index fabric lt is = ap (is_used index) (drop_at fabrics i fabric lt is)
