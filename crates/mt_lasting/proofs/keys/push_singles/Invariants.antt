use Rattle.std.proofs.Common.{◌≡◌, ◌++◌, drop, map}
use Rattle.mt_grammar.specs.declared.keys.Key.TheVariants.{Single}
use Rattle.mt_lasting.proofs.keys.push_singles.Given as goal

-- the keys so far, and those of the places to come
abbrev pub invariant-loop-place : goal.invariant-loop-place
invariant-loop-place l = l.keys.items ++ map Single (drop l.place-index l.places) ≡ l.fn.keys.items ++ map Single l.places
