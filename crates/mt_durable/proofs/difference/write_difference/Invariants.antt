use Rattle.std.proofs.Common.{◌≡◌, ◌≤◌, ◌++◌, length, take}
use Rattle.mt_durable.specs.Differences.{difference_bytes, differences}
use Rattle.mt_durable.specs.Fronts.{AreEntries, bytes_to_end, entries_said}
use Rattle.mt_durable.proofs.difference.write_difference.Given as goal

-- what is added, and the differences of the entries that are left, are all differences
abbrev pub invariant-entries : goal.invariant-entries
invariant-entries l = record {
  left : AreEntries l.left;
  others : AreEntries l.others;
  within : l.end ≤ length l.into;
  size : length l.into ≡ length l.fn.into;
  added : take l.end l.into ++ bytes_to_end (differences (entries_said l.left) (entries_said l.others)) ≡ difference_bytes l.from l.to;
}

abbrev pub decreases-entries : goal.decreases-entries
decreases-entries l = length (entries_said l.left)
