use Rattle.std.proofs.Common.{◌≡◌, drop, bytes_eq}
use Rattle.mt_model.specs.texts.Config.{none_alike}
use Rattle.mt_grammar.proofs.facts.roots_differ.Given as goal

abbrev pub invariant-loop-place : goal.invariant-loop-place
invariant-loop-place l = none_alike bytes_eq (drop l.place l.roots) ≡ none_alike bytes_eq l.roots
