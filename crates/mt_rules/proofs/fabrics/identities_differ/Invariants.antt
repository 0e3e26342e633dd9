use Rattle.std.proofs.Common.{◌≡◌, drop}
use Rattle.mt_model.specs.texts.Config.{have_one_identity, none_alike}
use Rattle.mt_rules.proofs.fabrics.identities_differ.Given as goal

abbrev pub invariant-loop-place : goal.invariant-loop-place
invariant-loop-place l = none_alike have_one_identity (drop l.place l.fabrics) ≡ none_alike have_one_identity l.fabrics
