use Rattle.std.proofs.Common.{◌<◌}
use Rattle.mt_marks.specs.Parts.{IsSame, place_of}
use Rattle.mt_marks.specs.declared.difference.Part.{Part}
use Rattle.mt_marks.proofs.difference.first_difference.Given as goal

-- the parts so far are the same
abbrev pub invariant-loop-part : goal.invariant-loop-part
invariant-loop-part l = (part : Part) → place_of part < l.part-index → IsSame part l.one l.other
