use Rattle.std.proofs.Common.{◌≡◌, ◌++◌, drop, map}
use Rattle.mt_marks.specs.Seen.{described}
use Rattle.mt_marks.proofs.making.descriptors.Given as goal

-- the descriptors so far, and those of the fabrics to come
abbrev pub invariant-loop-fabric : goal.invariant-loop-fabric
invariant-loop-fabric l = l.descriptors.items ++ map described (drop l.fabric-index l.fabrics) ≡ map described l.fabrics
