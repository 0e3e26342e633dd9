use Rattle.std.proofs.Common.{◌≡◌, ◌+◌, length}
use Rattle.mt_durable.specs.Setting.{count_before}
use Rattle.mt_durable.proofs.durable.count_before.Given as goal

abbrev pub invariant-entries : goal.invariant-entries
invariant-entries l = record {
  count : l.count + count_before l.key l.left ≡ count_before l.key l.entries;
  left : l.count + length l.left ≡ length l.entries;
}

abbrev pub decreases-entries : goal.decreases-entries
decreases-entries l = length l.left
