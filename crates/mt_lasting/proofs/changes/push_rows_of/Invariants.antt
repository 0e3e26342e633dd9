use Rattle.std.proofs.Common.{◌≡◌, ◌++◌, drop}
use Rattle.std.specs.List.{flat_map}
use Rattle.mt_grammar.specs.declared.keys.Key.TheVariants.{Items}
use Rattle.mt_lasting.specs.Changes.{differing_under}
use Rattle.mt_lasting.proofs.changes.push_rows_of.Given as goal

-- what is said so far, and what is to be said of the places to come
abbrev pub invariant-loop-place : goal.invariant-loop-place
invariant-loop-place l = l.entries.items ++ flat_map (λ place. differing_under l.before l.behind (Items l.fabric place)) (drop l.place-index l.places) ≡ l.fn.entries.items ++ flat_map (λ place. differing_under l.before l.behind (Items l.fabric place)) l.places
