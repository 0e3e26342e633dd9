use Rattle.std.proofs.Common.{◌≡◌, ℕ, List, ◌++◌, length, drop}
use Rattle.mt_durable.specs.Fronts.{AreEntries, entries_said, lower_bytes}
use Rattle.mt_durable.specs.Setting.{count_before}
use Rattle.mt_durable.proofs.image.behind_lower.Given as goal

-- what was gone over, and what stands before the key in what is left, is all that stands before it
abbrev pub invariant-lower : goal.invariant-lower
invariant-lower l = record {
  entries : AreEntries l.left;
  parts : (before : List ℕ) × (l.image ≡ before ++ l.left) × (before ++ lower_bytes l.key (entries_said l.left) ≡ lower_bytes l.key (entries_said l.image));
  left : drop (count_before l.key (entries_said l.left)) (entries_said l.left) ≡ drop (count_before l.key (entries_said l.image)) (entries_said l.image);
}

abbrev pub decreases-lower : goal.decreases-lower
decreases-lower l = length (entries_said l.left)
