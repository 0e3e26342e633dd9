use Rattle.std.proofs.Common.{◌≡◌, ◌++◌, drop}
use Rattle.std.specs.List.{flat_map}
use Rattle.mt_lasting.specs.Contents.{entry_at}
use Rattle.mt_lasting.proofs.contents.entries.Given as goal

-- the entries so far, and those of the keys to come
abbrev pub invariant-loop-key : goal.invariant-loop-key
invariant-loop-key l = l.entries.items ++ flat_map (entry_at l.state l.ceiling) (drop l.key-index l.key-items) ≡ flat_map (entry_at l.state l.ceiling) l.key-items
