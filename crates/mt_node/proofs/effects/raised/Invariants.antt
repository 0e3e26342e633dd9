use Rattle.std.proofs.Common.{◌≡◌, ◌++◌, drop, map, take}
use Rattle.mt_machine.specs.Changes.{version_after}
use Rattle.mt_node.proofs.effects.raised.Given as goal

-- those so far are the new ones
abbrev pub invariant-loop-version : goal.invariant-loop-version
invariant-loop-version l = l.version-items ≡ map (version_after l.places) (take l.version-index l.fn.versions.items) ++ drop l.version-index l.fn.versions.items
