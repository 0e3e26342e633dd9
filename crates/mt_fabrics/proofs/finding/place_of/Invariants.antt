-- the fabrics that were looked at have other indexes
use Rattle.std.proofs.Common.{◌≡◌, drop}
use Rattle.mt_fabrics.specs.Table.{is_used}
use Rattle.mt_fabrics.proofs.finding.place_of.Given as goal

abbrev pub invariant-loop-place : goal.invariant-loop-place
invariant-loop-place l = is_used l.index (drop l.place l.fabrics) ≡ is_used l.index l.fabrics
