use Rattle.std.proofs.Common.{◌≡◌, ◌++◌, drop, map}
use Rattle.mt_grammar.specs.declared.keys.Key.TheVariants.{Fabric as FabricKey}
use Rattle.mt_lasting.proofs.keys.push_fabrics.Given as goal

-- the keys so far, and those of the fabrics to come
abbrev pub invariant-loop-index : goal.invariant-loop-index
invariant-loop-index l = l.keys.items ++ map FabricKey (drop l.index-index l.fabrics) ≡ l.fn.keys.items ++ map FabricKey l.fabrics
