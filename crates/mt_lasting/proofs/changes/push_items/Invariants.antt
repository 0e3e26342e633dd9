use Rattle.std.proofs.Common.{◌≡◌, ◌++◌, drop}
use Rattle.std.specs.List.{flat_map}
use Rattle.mt_lasting.specs.Changes.{differing_under}
use Rattle.mt_lasting.specs.Keys.{keys_of}
use Rattle.mt_lasting.proofs.changes.push_items.Given as goal

-- what is said so far, and what is to be said of the fabrics to come
abbrev pub invariant-loop-fabric : goal.invariant-loop-fabric
invariant-loop-fabric l = l.entries.items ++ flat_map (λ fabric. flat_map (differing_under l.before l.behind) (keys_of fabric)) (drop l.fabric-index l.fabrics) ≡ l.fn.entries.items ++ flat_map (λ fabric. flat_map (differing_under l.before l.behind) (keys_of fabric)) l.fabrics
