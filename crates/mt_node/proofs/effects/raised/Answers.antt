use Rattle.std.proofs.Common.{◌≡◌, arith, ap, length}
use Rattle.mt_machine.specs.Changes.{version_after}
use Rattle.mt_node.proofs.Filters.{set_more}
use Rattle.mt_node.proofs.effects.raised.Goals as goal

pub loop-version-preserved : goal.loop-version-preserved
loop-version-preserved c =
    let all : length c.deref_mut-version-items.result.now ≡ length c.args.versions.items = ap length c.deref_mut-version-items.ensures.value in
    set_more (version_after c.args.places.now) c.args.versions.items c.loop-version.version-items c.loop-version.version-index _ c.version_after.result (omega arith) (omega arith) c.loop-version.invariant c.version_after.ensures
