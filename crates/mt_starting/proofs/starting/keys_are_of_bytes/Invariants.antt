use Rattle.std.proofs.Common.{◌≡◌, drop}
use Rattle.std.specs.List.{list_all}
use Rattle.mt_shared.specs.mt_regained.Laws.{is_of_bytes}
use Rattle.mt_starting.proofs.starting.keys_are_of_bytes.Given as goal

-- the keys that were read are of bytes
abbrev pub invariant-loop-entry : goal.invariant-loop-entry
invariant-loop-entry l = list_all is_of_bytes l.entries ≡ list_all is_of_bytes (drop l.entry-index l.entries)
