use Rattle.std.proofs.Common.{◌≡◌, ◌+◌, drop}
use Rattle.mt_model.specs.texts.Config.{are_numbered_from}
use Rattle.mt_rules.proofs.fabrics.are_numbered.Given as goal

abbrev pub invariant-loop-place : goal.invariant-loop-place
invariant-loop-place l = are_numbered_from (l.place + 1) (drop l.place l.fabrics) ≡ are_numbered_from 1 l.fabrics
