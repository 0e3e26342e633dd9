use Rattle.std.proofs.Common.{◌≡◌, ◌++◌, drop}
use Rattle.std.specs.List.{flat_map}
use Rattle.mt_grammar.specs.declared.keys.Key.TheVariants.{Fabric as FabricKey}
use Rattle.mt_lasting.specs.Changes.{differing_under}
use Rattle.mt_lasting.proofs.changes.push_fabrics.Given as goal

-- what is said so far, and what is to be said of the fabrics to come
abbrev pub invariant-loop-index : goal.invariant-loop-index
invariant-loop-index l = l.entries.items ++ flat_map (λ index. differing_under l.before l.behind (FabricKey index)) (drop l.index-index l.fabrics) ≡ l.fn.entries.items ++ flat_map (λ index. differing_under l.before l.behind (FabricKey index)) l.fabrics
