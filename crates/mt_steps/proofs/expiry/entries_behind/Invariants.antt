use Rattle.std.proofs.Common.{◌≡◌, ◌++◌, drop, filter}
use Rattle.mt_model.specs.tables.Leaving.{stays}
use Rattle.mt_model.specs.declared.tables.access.AclEntry.{AclEntry}
use Rattle.mt_steps.proofs.expiry.entries_behind.Given as goal

-- those that stay so far, and those among the entries to come
abbrev pub invariant-loop-entry : goal.invariant-loop-entry
invariant-loop-entry l = l.behind ++ filter (λ (entry : AclEntry). stays l.added entry.fabric) (drop l.entry-index l.entries) ≡ filter (λ (entry : AclEntry). stays l.added entry.fabric) l.entries
