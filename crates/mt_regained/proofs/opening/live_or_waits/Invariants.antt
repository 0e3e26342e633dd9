use Rattle.std.proofs.Common.{◌≡◌, drop}
use Rattle.std.specs.List.{find}
use Rattle.mt_model.specs.texts.Config.{has_identity}
use Rattle.mt_regained.proofs.opening.live_or_waits.Given as goal

-- the fabrics that were looked at have other identities
abbrev pub invariant-loop-fabric : goal.invariant-loop-fabric
invariant-loop-fabric l = find (has_identity l.root_key l.fabric_id) l.fabrics ≡ find (has_identity l.root_key l.fabric_id) (drop l.fabric-index l.fabrics)
