use Rattle.std.proofs.Common.{◌≡◌, drop}
use Rattle.mt_model.specs.texts.Config.{ascend_from}
use Rattle.mt_model.proofs.tables.access.entries_ascend_from.Given as goal

-- the entries from here on ascend exactly where all of them do
abbrev pub invariant-loop-entry : goal.invariant-loop-entry
invariant-loop-entry l = ascend_from l.before (drop l.entry-index l.entries) ≡ ascend_from l.fabric l.entries
