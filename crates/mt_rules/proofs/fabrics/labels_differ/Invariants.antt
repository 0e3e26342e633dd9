use Rattle.std.proofs.Common.{◌≡◌, drop}
use Rattle.mt_model.specs.texts.Config.{have_one_label, none_alike}
use Rattle.mt_rules.proofs.fabrics.labels_differ.Given as goal

abbrev pub invariant-loop-place : goal.invariant-loop-place
invariant-loop-place l = none_alike have_one_label (drop l.place l.fabrics) ≡ none_alike have_one_label l.fabrics
