-- A mark as data is the mark of a run, part by part.
use Rattle.std.proofs.Common.{◌≡◌, List, [], ◌∷◌, refl, ap, map}
use Rattle.mt_model.specs.declared.tables.fabric.Fabric.{Fabric}
use Rattle.mt_runs.specs.mt_machine.Isolation.{descriptor_of}
use Rattle.mt_runs.specs.mt_machine.Isolation as machine
use Rattle.mt_marks.specs.Seen.{described, descriptor_in}

pub map-described : (fabrics : List Fabric) → map descriptor_in (map described fabrics) ≡ map descriptor_of fabrics
map-described [] = refl
map-described (f ∷ fabrics) = ap (λ (ds : List machine.Descriptor). descriptor_of f ∷ ds) (map-described fabrics)
