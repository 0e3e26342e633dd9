use Rattle.std.proofs.Common.{◌≡◌, drop}
use Rattle.mt_model.specs.rows.Sight.{version_in}
use Rattle.mt_node.proofs.sight.version_among.Given as goal

-- the versions that were looked at are of other clusters
abbrev pub invariant-loop-row : goal.invariant-loop-row
invariant-loop-row l = version_in l.versions l.endpoint l.cluster ≡ version_in (drop l.row-index l.versions) l.endpoint l.cluster
