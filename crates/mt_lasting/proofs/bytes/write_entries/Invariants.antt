use Rattle.std.proofs.Common.{◌≡◌, ◌++◌, drop}
use Rattle.mt_durable.specs.Fronts.{entries_bytes}
use Rattle.mt_lasting.proofs.bytes.write_entries.Given as goal

-- the bytes so far, and those of the entries to come
abbrev pub invariant-loop-entry : goal.invariant-loop-entry
invariant-loop-entry l = l.out.items ++ entries_bytes (drop l.entry-index l.entries) ≡ l.fn.out.items ++ entries_bytes l.entries
