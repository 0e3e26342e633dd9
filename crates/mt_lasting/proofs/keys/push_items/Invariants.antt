use Rattle.std.proofs.Common.{◌≡◌, ◌++◌, drop}
use Rattle.std.specs.List.{flat_map}
use Rattle.mt_lasting.specs.Keys.{keys_of}
use Rattle.mt_lasting.proofs.keys.push_items.Given as goal

-- the keys so far, and those of the fabrics to come
abbrev pub invariant-loop-fabric : goal.invariant-loop-fabric
invariant-loop-fabric l = l.keys.items ++ flat_map keys_of (drop l.fabric-index l.fabrics) ≡ l.fn.keys.items ++ flat_map keys_of l.fabrics
