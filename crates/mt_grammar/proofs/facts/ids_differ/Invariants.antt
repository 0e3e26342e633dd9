use Rattle.std.proofs.Common.{◌≡◌, drop}
use Rattle.mt_model.specs.texts.Config.{none_alike}
use Rattle.mt_model.specs.tables.Holding.{have_one_id}
use Rattle.mt_grammar.proofs.facts.ids_differ.Given as goal

abbrev pub invariant-loop-place : goal.invariant-loop-place
invariant-loop-place l = none_alike have_one_id (drop l.place l.networks) ≡ none_alike have_one_id l.networks
