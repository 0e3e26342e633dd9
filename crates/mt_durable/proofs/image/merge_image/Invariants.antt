use Rattle.std.proofs.Common.{◌≡◌, ◌≤◌, ◌++◌, length, take}
use Rattle.mt_durable.specs.Fronts.{AreEntries, bytes_to_end, entries_said}
use Rattle.mt_durable.specs.Images.{image_after}
use Rattle.mt_durable.specs.Setting.{with_all}
use Rattle.mt_durable.proofs.image.merge_image.Given as goal

-- what is added, and what the entries that are left lead to, is the image after the change
abbrev pub invariant-entries : goal.invariant-entries
invariant-entries l = record {
  image : AreEntries l.image;
  change : AreEntries l.entries;
  within : l.end ≤ length l.into;
  added : take l.end l.into ++ bytes_to_end (with_all (entries_said l.entries) (entries_said l.image)) ≡ image_after l.change l.from;
}

abbrev pub decreases-entries : goal.decreases-entries
decreases-entries l = length (entries_said l.entries)
