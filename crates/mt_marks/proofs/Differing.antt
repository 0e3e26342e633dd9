-- The parts of a mark by their places, and marks that are the same in all of them.
use Rattle.std.proofs.Common.{◌≡◌, ◌<◌, lit<}
use Rattle.mt_marks.specs.Parts.{IsSame, place_of}
use Rattle.mt_marks.specs.declared.difference.Part.{Part}
use Rattle.mt_marks.specs.declared.difference.Part.TheVariants as parts
use Rattle.mt_marks.specs.declared.mark.Mark.{Mark}

pub part_within : (part : Part) → place_of part < 12
part_within parts.Event = lit< tt
part_within parts.Born = lit< tt
part_within parts.Rows = lit< tt
part_within parts.Fabrics = lit< tt
part_within parts.Roots = lit< tt
part_within parts.Networks = lit< tt
part_within parts.Failsafe = lit< tt
part_within parts.Versions = lit< tt
part_within parts.Events = lit< tt
part_within parts.Numbers = lit< tt
part_within parts.Boot = lit< tt
part_within parts.Now = lit< tt

pub all_same : (one other : Mark) → ((part : Part) → IsSame part one other) → one ≡ other
all_same one other same = λ i. record {
  event = same parts.Event i;
  rows = (same parts.Rows).0 i;
  owners = (same parts.Rows).1 i;
  fabrics = same parts.Fabrics i;
  roots = same parts.Roots i;
  networks = same parts.Networks i;
  failsafe = same parts.Failsafe i;
  versions = (same parts.Versions).0 i;
  changes = (same parts.Versions).1 i;
  events = same parts.Events i;
  next = same parts.Numbers i;
  boot = same parts.Boot i;
  now = same parts.Now i;
}
