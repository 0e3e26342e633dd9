-- What steps that set values leave under a key, and of which fabrics they set something.
use Rattle.std.specs.Prelude.{ℕ, ◌==◌, Bool, false, List, [], ◌∷◌, Option, None}
use Rattle.mt_tlv.specs.declared.value.Value.{Value}
use Rattle.mt_model.specs.declared.node.action.NodeStep.{NodeStep}
use Rattle.mt_model.specs.declared.node.action.NodeStep.TheVariants.{SetEntries, SetRow}
use Rattle.mt_model.specs.declared.rows.place.Place.{Place}
use Rattle.mt_lasting.specs.Values.{unless_first}

-- the first of the values that are set there, unless the attribute begins with it
abbrev pub first_kept : Place → List Value → Option Value
first_kept place [] = None
first_kept place (value ∷ values) = unless_first place value

-- whether a step sets rows or entries of this fabric
abbrev pub names_fabric : ℕ → NodeStep → Bool
names_fabric fabric (SetRow at whose values) = whose == fabric
names_fabric fabric (SetEntries whose entries) = whose == fabric
names_fabric fabric step = false
