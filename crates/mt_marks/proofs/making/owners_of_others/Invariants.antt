use Rattle.std.proofs.Common.{◌≡◌, ◌++◌, drop}
use Rattle.mt_marks.specs.Seen.{other_owners}
use Rattle.mt_marks.proofs.making.owners_of_others.Given as goal

-- the owners so far, and those of the entries to come
abbrev pub invariant-loop-entry : goal.invariant-loop-entry
invariant-loop-entry l = l.owners.items ++ other_owners l.fabric (drop l.entry-index l.entries) ≡ other_owners l.fabric l.entries
