use Rattle.std.proofs.Common.{◌≡◌, ◌∷◌, ◌++◌, drop, map}
use Rattle.mt_grammar.specs.declared.keys.Key.TheVariants.{Items}
use Rattle.mt_lasting.specs.Keys.{acl_place}
use Rattle.mt_lasting.proofs.keys.push_items_of.Given as goal

-- the keys so far, and those of the places to come
abbrev pub invariant-loop-place : goal.invariant-loop-place
invariant-loop-place l = l.keys.items ++ map (Items l.fabric) (drop l.place-index l.places) ≡ l.fn.keys.items ++ Items l.fabric acl_place ∷ map (Items l.fabric) l.places
