use Rattle.std.proofs.Common.{◌≡◌, ◌++◌, Option, drop}
use Rattle.std.specs.Option.{option_map}
use Rattle.mt_tlv.specs.Tree.{Tree}
use Rattle.mt_tlv.specs.View.{elements}
use Rattle.mt_model.specs.tables.Entries.{each_in}
use Rattle.mt_rules.specs.Reading.{Reads}
use Rattle.mt_rules.proofs.elements.each.Given as goal

-- what was read, and what stands in the members from here on, is what stands in all of them
abbrev pub invariant-loop-member : goal.invariant-loop-member
invariant-loop-member g l = (item : Tree → Option _) → Reads (goal.F-post g l.fn.read) item
    → option_map (λ rest. l.items ++ rest) (each_in item (elements (drop l.member-index l.members))) ≡ each_in item (elements l.members)
