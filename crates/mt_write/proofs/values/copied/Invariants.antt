use Rattle.std.proofs.Common.{◌≡◌, ◌++◌, drop}
use Rattle.mt_write.proofs.values.copied.Given as goal

-- the entries so far and those to come are all entries
abbrev pub invariant-loop-entry : goal.invariant-loop-entry
invariant-loop-entry l = l.copied ++ drop l.entry-index l.entries ≡ l.entries
