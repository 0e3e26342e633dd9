-- the field stands among the members from here on
use Rattle.std.proofs.Common.{◌≡◌, drop}
use Rattle.mt_tlv.specs.View.{elements}
use Rattle.mt_model.specs.Trees.{field_in}
use Rattle.mt_model.proofs.fields.place_of.Given as goal

abbrev pub invariant-loop-i : goal.invariant-loop-i
invariant-loop-i l = field_in l.number (elements (drop l.i l.members)) ≡ field_in l.number (elements l.members)
